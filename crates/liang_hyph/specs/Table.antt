-- The table that patterns and exceptions are merged into, and the places that are read off it.
use Rattle.std.specs.Prelude.{◌≡◌, ℕ, ◌+◌, ◌-◌, ◌==◌, ◌&&◌, ◌<◌, ◌≤◌, max, ℤ, Bool, not, if◌then◌else◌, List, [], map, length}
use Rattle.std.specs.List.{filter}
use Rattle.std.specs.Map.{lookup}
use Rattle.std.specs.Option.{unwrap_or}
use Rattle.std.specs.Str.{bytes_eq}
use Rattle.liang_hyph.specs.Greatest.{greatest, greatest_below}
use Rattle.liang_hyph.specs.Places.{letters_after, value_at, is_break, exception_of, places_of_exception, places_within, places_of}
use Rattle.liang_hyph.specs.declared.source.Pattern.{Pattern}
use Rattle.liang_hyph.specs.declared.source.Exception.{Exception}

-- rows of numbers, each under its letters
abbrev pub RowList : Type 0
RowList = List (List ℕ × List ℕ)

-- whether two truth values are the same
abbrev pub same_bool : Bool → Bool → Bool
same_bool a b = if b then a else not a

-- the row under the letters, empty where there is none
abbrev pub row : RowList → List ℕ → List ℕ
row rows letters = unwrap_or (lookup (bytes_eq letters) rows) []

-- For each of the four kinds of pattern the merged values under the letters, and the places of the exceptions.
pub record PatternTable : Type 0 where
  -- patterns that occur anywhere
  pub anywhere : List (List ℕ × List ℕ)
  -- only at the beginning of a word
  pub at_start : List (List ℕ × List ℕ)
  -- only at its end
  pub at_end : List (List ℕ × List ℕ)
  -- only as the whole word
  pub as_word : List (List ℕ × List ℕ)
  pub exceptions : List (List ℕ × List ℕ)

abbrev pub row_if : Bool → RowList → List ℕ → List ℕ
row_if fits rows letters = if fits then row rows letters else []

-- what the rows under the `count` letters after the first `at` say of the place h
abbrev pub value_of_part : PatternTable → List ℕ → ℕ → ℕ → ℕ → ℕ
value_of_part table word at count h =
    let letters = letters_after word at count in
    let starts = at == 0 in
    let ends = at + count == length word in
    max (max (max
    (value_at (row table.anywhere letters) at h)
    (value_at (row_if starts table.at_start letters) at h))
    (value_at (row_if ends table.at_end letters) at h))
    (value_at (row_if (starts && ends) table.as_word letters) at h)

-- the greatest value at the place h that a part of the word has in the table
abbrev pub value_read : PatternTable → List ℕ → ℕ → ℕ
value_read table word h =
    greatest_below (λ at. greatest_below (λ count. value_of_part table word at count h) (length word - at + 1)) (length word + 1)

-- the hyphen places of the word that are read off the table
abbrev pub places_read : PatternTable → List ℕ → ℤ → ℤ → List ℕ
places_read table word left right =
    places_within (length word) left right
    (λ h. is_break (lookup (bytes_eq word) table.exceptions) (value_read table word h) h)

-- no word has a place
abbrev pub IsSilent : PatternTable → Type 0
IsSilent table = (word : List ℕ) (left right : ℤ) → places_read table word left right ≡ []

-- no part of a word with more than `longest` letters has a value in the table
abbrev pub IsSilentPast : ℕ → PatternTable → Type 0
IsSilentPast longest table =
    (word : List ℕ) (at count h : ℕ) → longest < count → at + count ≤ length word → value_of_part table word at count h ≡ 0

-- a pattern of one of the four kinds, with these letters
abbrev pub is_of_kind : Bool → Bool → List ℕ → Pattern → Bool
is_of_kind start end letters p = bytes_eq letters p.letters && (same_bool p.start start && same_bool p.end end)

-- the rows are the patterns of one kind, those with equal letters merged by the greater value at each place
abbrev pub IsMerged : List Pattern → Bool → Bool → RowList → Type 0
IsMerged patterns start end rows =
    (letters : List ℕ) (at h : ℕ)
    → value_at (row rows letters) at h ≡ greatest (map (λ p. value_at p.values at h) (filter (is_of_kind start end letters) patterns))

-- the rows are the places of the exceptions, of the last where several have the same letters
abbrev pub IsListed : List Exception → RowList → Type 0
IsListed exceptions rows =
    (word : List ℕ) → lookup (bytes_eq word) rows ≡ places_of_exception (exception_of exceptions word)

-- the table is made of the patterns and exceptions: what is read off it is what they give, for every word and all margins
abbrev pub IsMadeOf : PatternTable → List Pattern → List Exception → Type 0
IsMadeOf table patterns exceptions =
    (word : List ℕ) (left right : ℤ) → places_read table word left right ≡ places_of patterns exceptions word left right
