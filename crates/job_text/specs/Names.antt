-- Font words: a control word stands for the font that was declared by it.
-- This is the crate's own.
use Rattle.std.specs.Prelude.{ℕ, ◌+◌, List, [], ◌∷◌, Option, Some, None, if◌then◌else◌}
use Rattle.std.specs.Str.{bytes_eq}

-- the number of the font that was declared by a name, counted from one on
abbrev pub font_from : ℕ → List (List ℕ) → List ℕ → Option ℕ
font_from font [] name = None
font_from font (own ∷ names) name = if bytes_eq own name then Some font else font_from (font + 1) names name

abbrev pub font_named : List (List ℕ) → List ℕ → Option ℕ
font_named names name = font_from 0 names name
