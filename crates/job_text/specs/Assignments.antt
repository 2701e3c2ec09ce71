-- The tables and the parameters, and what assigns them (TeX: The Program, sections 1228 to 1234).
-- A new parameter has two lines here: its value, and the assignment.
use Rattle.std.specs.Prelude.{ℕ, ℤ, pos, List, slice_set, Ok}
use Rattle.micro_num.specs.declared.tables.Tables.{Tables}
use Rattle.micro_num.specs.declared.params.Params.{Params}
use Rattle.micro_num.specs.declared.glue.Glue.{Glue}
use Rattle.job_reading.specs.declared.token.Token.{Token}
use Rattle.job_reading.specs.declared.word.IntegerParameter.{IntegerParameter}
use Rattle.job_reading.specs.declared.word.IntegerParameter.TheVariants.{Pretolerance, Tolerance, Linepenalty, Hyphenpenalty, Exhyphenpenalty, Adjdemerits, Doublehyphendemerits, Finalhyphendemerits, Lefthyphenmin, Righthyphenmin, Pdfprotrudechars, Pdfadjustspacing, Looseness, Hangafter}
use Rattle.job_reading.specs.declared.word.DimensionParameter.{DimensionParameter}
use Rattle.job_reading.specs.declared.word.DimensionParameter.TheVariants.{Hsize, Parindent, Lineskiplimit, Emergencystretch, Hangindent}
use Rattle.job_reading.specs.declared.word.GlueParameter.{GlueParameter}
use Rattle.job_reading.specs.declared.word.GlueParameter.TheVariants.{Baselineskip, Lineskip, Parfillskip, Leftskip, Rightskip, Spaceskip, Xspaceskip}
use Rattle.job_reading.specs.Reading.{Reading, ◌>>=◌, equals}
use Rattle.job_reading.specs.Numbers.{number, natural}
use Rattle.job_reading.specs.Lengths.{dimension, glue}

-- a number 0 to 255, equals, and a number 0 to 32767
unfoldable pub space_factor : ℕ → Tables → List Token → Reading Tables
space_factor end tables toks =
    natural 0 255 end toks >>= λ code.
    natural 0 32767 end (equals code.1) >>= λ factor.
    Ok (record { sfcode = slice_set tables.sfcode code.0 factor.0; lccode = tables.lccode }, factor.1)

-- a number 0 to 255, equals, and a number 0 to 255
unfoldable pub lower_case : ℕ → Tables → List Token → Reading Tables
lower_case end tables toks =
    natural 0 255 end toks >>= λ code.
    natural 0 255 end (equals code.1) >>= λ lower.
    Ok (record { sfcode = tables.sfcode; lccode = slice_set tables.lccode code.0 lower.0 }, lower.1)

-- the value of a parameter
abbrev pub integer_of : Params → IntegerParameter → ℤ
integer_of params Pretolerance = params.pretolerance
integer_of params Tolerance = params.tolerance
integer_of params Linepenalty = params.linepenalty
integer_of params Hyphenpenalty = params.hyphenpenalty
integer_of params Exhyphenpenalty = params.exhyphenpenalty
integer_of params Adjdemerits = params.adjdemerits
integer_of params Doublehyphendemerits = params.doublehyphendemerits
integer_of params Finalhyphendemerits = params.finalhyphendemerits
integer_of params Lefthyphenmin = params.lefthyphenmin
integer_of params Righthyphenmin = params.righthyphenmin
integer_of params Pdfprotrudechars = params.pdfprotrudechars
integer_of params Pdfadjustspacing = params.pdfadjustspacing
integer_of params Looseness = params.looseness
integer_of params Hangafter = params.hangafter

abbrev pub dimension_of : Params → DimensionParameter → ℤ
dimension_of params Hsize = params.hsize
dimension_of params Parindent = params.parindent
dimension_of params Lineskiplimit = params.lineskiplimit
dimension_of params Emergencystretch = params.emergencystretch
dimension_of params Hangindent = params.hangindent

abbrev pub glue_of : Params → GlueParameter → Glue
glue_of params Baselineskip = params.baselineskip
glue_of params Lineskip = params.lineskip
glue_of params Parfillskip = params.parfillskip
glue_of params Leftskip = params.leftskip
glue_of params Rightskip = params.rightskip
glue_of params Spaceskip = params.spaceskip
glue_of params Xspaceskip = params.xspaceskip

-- the parameters with a value assigned to one
abbrev pub with_integer : IntegerParameter → ℤ → Params → Params
with_integer Pretolerance value params = record params { pretolerance = value }
with_integer Tolerance value params = record params { tolerance = value }
with_integer Linepenalty value params = record params { linepenalty = value }
with_integer Hyphenpenalty value params = record params { hyphenpenalty = value }
with_integer Exhyphenpenalty value params = record params { exhyphenpenalty = value }
with_integer Adjdemerits value params = record params { adjdemerits = value }
with_integer Doublehyphendemerits value params = record params { doublehyphendemerits = value }
with_integer Finalhyphendemerits value params = record params { finalhyphendemerits = value }
with_integer Lefthyphenmin value params = record params { lefthyphenmin = value }
with_integer Righthyphenmin value params = record params { righthyphenmin = value }
with_integer Pdfprotrudechars value params = record params { pdfprotrudechars = value }
with_integer Pdfadjustspacing value params = record params { pdfadjustspacing = value }
with_integer Looseness value params = record params { looseness = value }
with_integer Hangafter value params = record params { hangafter = value }

abbrev pub with_dimension : DimensionParameter → ℤ → Params → Params
with_dimension Hsize value params = record params { hsize = value }
with_dimension Parindent value params = record params { parindent = value }
with_dimension Lineskiplimit value params = record params { lineskiplimit = value }
with_dimension Emergencystretch value params = record params { emergencystretch = value }
with_dimension Hangindent value params = record params { hangindent = value }

abbrev pub with_glue : GlueParameter → Glue → Params → Params
with_glue Baselineskip value params = record params { baselineskip = value }
with_glue Lineskip value params = record params { lineskip = value }
with_glue Parfillskip value params = record params { parfillskip = value }
with_glue Leftskip value params = record params { leftskip = value }
with_glue Rightskip value params = record params { rightskip = value }
with_glue Spaceskip value params = record params { spaceskip = value }
with_glue Xspaceskip value params = record params { xspaceskip = value }

-- the parameters behind a paragraph: its looseness and its hanging indentation hold for it alone (TeX: The
-- Program, section 1070)
abbrev pub behind_paragraph : Params → Params
behind_paragraph params = record params { looseness = pos 0; hangindent = pos 0; hangafter = pos 1 }

-- equals and a value
unfoldable pub assign_integer : ℕ → Params → IntegerParameter → List Token → Reading Params
assign_integer end params parameter toks = number end (equals toks) >>= λ x. Ok (with_integer parameter x.0 params, x.1)

unfoldable pub assign_dimension : ℕ → Params → DimensionParameter → List Token → Reading Params
assign_dimension end params parameter toks = dimension end (equals toks) >>= λ x. Ok (with_dimension parameter x.0 params, x.1)

unfoldable pub assign_glue : ℕ → Params → GlueParameter → List Token → Reading Params
assign_glue end params parameter toks = glue end (equals toks) >>= λ x. Ok (with_glue parameter x.0 params, x.1)
