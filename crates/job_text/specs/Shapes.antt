-- The shape of the next paragraph (TeX: The Program, section 1248).
use Rattle.std.specs.Prelude.{ℕ, ℤ, pos, negsuc, nat_le, List, [], ◌∷◌, ◌++◌, Ok, if◌then◌else◌}
use Rattle.micro_num.specs.declared.shape.ShapeLine.{ShapeLine}
use Rattle.job_reading.specs.declared.token.Token.{Token}
use Rattle.job_reading.specs.declared.fault.JobFaultKind.TheVariants.{NumberPast}
use Rattle.job_reading.specs.Reading.{Reading, ◌>>=◌, place, fault, equals}
use Rattle.job_reading.specs.Repeats.{times}
use Rattle.job_reading.specs.Numbers.{number}
use Rattle.job_reading.specs.Lengths.{dimension}

-- one more line: its indent and its width
unfoldable pub shape_line : ℕ → List ShapeLine → List Token → Reading (List ShapeLine)
shape_line end lines toks =
    dimension end toks >>= λ indent.
    dimension end indent.1 >>= λ width.
    Ok (lines ++ record { indent = indent.0; width = width.0 } ∷ [], width.1)

-- So many lines, of which there are at most 1024. A count of 0 or less is no shape, and no line is read.
abbrev pub shape_of : ℕ → ℕ → ℤ → List Token → Reading (List ShapeLine)
shape_of end first (pos count) toks = if nat_le count 1024 then times count (shape_line end) [] toks else fault NumberPast first
shape_of end first (negsuc count) toks = Ok ([], toks)

-- equals, a count of lines, and the lines
unfoldable pub shape : ℕ → List Token → Reading (List ShapeLine)
shape end toks = number end (equals toks) >>= λ count. shape_of end (place end (equals toks)) count.0 count.1
