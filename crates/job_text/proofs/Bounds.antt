-- The parameters stay bounded, whatever is assigned to them. No proof here names the parameters: where all go
-- alike, one is written out, and the rest follows case by case.
use Rattle.std.proofs.Common.{ℕ, List, lit≤, arith}
use Rattle.std.specs.Prelude.{ℤ, pos}
use Rattle.std.proofs.lemmas.Int.{ints}
use Rattle.micro_num.specs.declared.glue.Glue.{Glue}
use Rattle.micro_num.specs.declared.params.Params.{Params}
use Rattle.micro_num.specs.Plain.{plain_params}
use Rattle.job_reading.specs.declared.token.Token.{Token}
use Rattle.job_reading.specs.declared.word.IntegerParameter.{IntegerParameter}
use Rattle.job_reading.specs.declared.word.IntegerParameter.TheVariants.{Tolerance, Looseness, Hangafter}
use Rattle.job_reading.specs.declared.word.DimensionParameter.{DimensionParameter}
use Rattle.job_reading.specs.declared.word.DimensionParameter.TheVariants.{Hsize, Hangindent}
use Rattle.job_reading.specs.declared.word.GlueParameter.{GlueParameter}
use Rattle.job_reading.specs.declared.word.GlueParameter.TheVariants.{Baselineskip}
use Rattle.job_reading.specs.Bounds.{IsLength, IsNumber, IsGlue}
use Rattle.job_reading.specs.Reading.{equals}
use Rattle.job_reading.specs.Numbers.{number}
use Rattle.job_reading.specs.Lengths.{dimension, glue}
use Rattle.job_text.specs.Assignments.{behind_paragraph, integer_of, dimension_of, glue_of, with_integer, with_dimension, with_glue, assign_integer, assign_dimension, assign_glue}
use Rattle.job_text.specs.Fits.{ParamsFit}
use Rattle.job_reading.proofs.Keeping.{OnRead, OnRead-then}
use Rattle.job_reading.proofs.Bounds.{natural_number, nothing, number_bounded, dimension_bounded, glue_bounded}

-- of a parameter of the kind that is assigned there is the value, or what it had
with_integer-own : (assigned parameter : IntegerParameter) (value : ℤ) (params : Params) → IsNumber value → IsNumber (integer_of params parameter) → IsNumber (integer_of (with_integer assigned value params) parameter)
with_integer-own Tolerance Tolerance value params new old = new
with_integer-own _ Tolerance value params new old = old
with_integer-own _ _ value params new old = assumption

-- and those of the other kinds stay
with_integer-others : (assigned : IntegerParameter) (value : ℤ) (params : Params) → ((parameter : IntegerParameter) → IsNumber (integer_of (with_integer assigned value params) parameter)) → ParamsFit params → ParamsFit (with_integer assigned value params)
with_integer-others Tolerance value params own fits = record { integers = own; dimensions = fits.dimensions; glues = fits.glues }
with_integer-others _ value params own fits = record { integers = own; dimensions = fits.dimensions; glues = fits.glues }

with_integer_fits : (assigned : IntegerParameter) (value : ℤ) (params : Params) → IsNumber value → ParamsFit params → ParamsFit (with_integer assigned value params)
with_integer_fits assigned value params new fits = with_integer-others assigned value params (λ parameter. with_integer-own assigned parameter value params new (fits.integers parameter)) fits

-- of a parameter of the kind that is assigned there is the value, or what it had
with_dimension-own : (assigned parameter : DimensionParameter) (value : ℤ) (params : Params) → IsLength value → IsLength (dimension_of params parameter) → IsLength (dimension_of (with_dimension assigned value params) parameter)
with_dimension-own Hsize Hsize value params new old = new
with_dimension-own _ Hsize value params new old = old
with_dimension-own _ _ value params new old = assumption

-- and those of the other kinds stay
with_dimension-others : (assigned : DimensionParameter) (value : ℤ) (params : Params) → ((parameter : DimensionParameter) → IsLength (dimension_of (with_dimension assigned value params) parameter)) → ParamsFit params → ParamsFit (with_dimension assigned value params)
with_dimension-others Hsize value params own fits = record { dimensions = own; integers = fits.integers; glues = fits.glues }
with_dimension-others _ value params own fits = record { dimensions = own; integers = fits.integers; glues = fits.glues }

with_dimension_fits : (assigned : DimensionParameter) (value : ℤ) (params : Params) → IsLength value → ParamsFit params → ParamsFit (with_dimension assigned value params)
with_dimension_fits assigned value params new fits = with_dimension-others assigned value params (λ parameter. with_dimension-own assigned parameter value params new (fits.dimensions parameter)) fits

-- of a parameter of the kind that is assigned there is the value, or what it had
with_glue-own : (assigned parameter : GlueParameter) (value : Glue) (params : Params) → IsGlue value → IsGlue (glue_of params parameter) → IsGlue (glue_of (with_glue assigned value params) parameter)
with_glue-own Baselineskip Baselineskip value params new old = new
with_glue-own _ Baselineskip value params new old = old
with_glue-own _ _ value params new old = assumption

-- and those of the other kinds stay
with_glue-others : (assigned : GlueParameter) (value : Glue) (params : Params) → ((parameter : GlueParameter) → IsGlue (glue_of (with_glue assigned value params) parameter)) → ParamsFit params → ParamsFit (with_glue assigned value params)
with_glue-others Baselineskip value params own fits = record { glues = own; integers = fits.integers; dimensions = fits.dimensions }
with_glue-others _ value params own fits = record { glues = own; integers = fits.integers; dimensions = fits.dimensions }

with_glue_fits : (assigned : GlueParameter) (value : Glue) (params : Params) → IsGlue value → ParamsFit params → ParamsFit (with_glue assigned value params)
with_glue_fits assigned value params new fits = with_glue-others assigned value params (λ parameter. with_glue-own assigned parameter value params new (fits.glues parameter)) fits

pub assign_integer_fits : (end : ℕ) (params : Params) (parameter : IntegerParameter) (toks : List Token) → ParamsFit params → OnRead ParamsFit (assign_integer end params parameter toks)
unfolding assign_integer
assign_integer_fits end params parameter toks fits =
    OnRead-then IsNumber ParamsFit (number end (equals toks)) _ (number_bounded end (equals toks)) (λ x bounded. with_integer_fits parameter x.0 params bounded fits)

pub assign_dimension_fits : (end : ℕ) (params : Params) (parameter : DimensionParameter) (toks : List Token) → ParamsFit params → OnRead ParamsFit (assign_dimension end params parameter toks)
unfolding assign_dimension
assign_dimension_fits end params parameter toks fits =
    OnRead-then IsLength ParamsFit (dimension end (equals toks)) _ (dimension_bounded end (equals toks)) (λ x bounded. with_dimension_fits parameter x.0 params bounded fits)

pub assign_glue_fits : (end : ℕ) (params : Params) (parameter : GlueParameter) (toks : List Token) → ParamsFit params → OnRead ParamsFit (assign_glue end params parameter toks)
unfolding assign_glue
assign_glue_fits end params parameter toks fits =
    OnRead-then IsGlue ParamsFit (glue end (equals toks)) _ (glue_bounded end (equals toks)) (λ x bounded. with_glue_fits parameter x.0 params bounded fits)

-- behind a paragraph
pub behind_paragraph_fits : (params : Params) → ParamsFit params → ParamsFit (behind_paragraph params)
behind_paragraph_fits params fits =
    with_integer_fits Looseness (pos 0) (with_dimension Hangindent (pos 0) (with_integer Hangafter (pos 1) params)) (natural_number 0 (lit≤ tt))
    (with_dimension_fits Hangindent (pos 0) (with_integer Hangafter (pos 1) params) nothing
    (with_integer_fits Hangafter (pos 1) params (natural_number 1 (lit≤ tt)) fits))

-- the parameters of plain TeX
plain_integers : (parameter : IntegerParameter) → IsNumber (integer_of plain_params parameter)
unfolding plain_params
plain_integers Tolerance = record { low = omega (arith, ints); high = omega (arith, ints) }
plain_integers _ = record { low = omega (arith, ints); high = omega (arith, ints) }

plain_dimensions : (parameter : DimensionParameter) → IsLength (dimension_of plain_params parameter)
unfolding plain_params
plain_dimensions Hsize = record { low = omega (arith, ints); high = omega (arith, ints) }
plain_dimensions _ = record { low = omega (arith, ints); high = omega (arith, ints) }

plain_glues : (parameter : GlueParameter) → IsGlue (glue_of plain_params parameter)
unfolding plain_params
plain_glues Baselineskip = record {
  width = record { low = omega (arith, ints); high = omega (arith, ints) };
  stretch = record { low = omega (arith, ints); high = omega (arith, ints) };
  shrink = record { low = omega (arith, ints); high = omega (arith, ints) };
}
plain_glues _ = record {
  width = record { low = omega (arith, ints); high = omega (arith, ints) };
  stretch = record { low = omega (arith, ints); high = omega (arith, ints) };
  shrink = record { low = omega (arith, ints); high = omega (arith, ints) };
}

pub plain_params_fit : ParamsFit plain_params
plain_params_fit = record { integers = plain_integers; dimensions = plain_dimensions; glues = plain_glues }
