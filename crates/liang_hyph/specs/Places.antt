-- Where a word may be hyphenated, by a list of patterns and a list of exceptions
-- (F. M. Liang, Word Hy-phen-a-tion by Com-put-er; TeX: The Program, part 42).
-- A place h of a word lies after its first h letters.
use Rattle.std.specs.Prelude.{ℕ, ◌+◌, ◌-◌, ◌%◌, ◌==◌, ◌&&◌, ◌||◌, min, max, ℤ, pos, negsuc, Bool, not, nat_le, if◌then◌else◌, List, map, reverse, length, Option, Some, None, slice_index, slice_range}
use Rattle.std.specs.List.{filter, find, flat_map, list_any, range_with_len}
use Rattle.std.specs.Str.{bytes_eq}
use Rattle.liang_hyph.specs.Greatest.{greatest}
use Rattle.liang_hyph.specs.declared.source.Pattern.{Pattern}
use Rattle.liang_hyph.specs.declared.source.Exception.{Exception}

-- the `count` letters of the word after its first `at` letters, fewer where the word ends before
abbrev pub letters_after : List ℕ → ℕ → ℕ → List ℕ
letters_after word at count = slice_range word at (at + count)

-- The pattern occurs in the word after its first `at` letters: its letters stand there, and that is the word's
-- beginning where it is a pattern for beginnings, and ends with the word where it is one for endings.
abbrev pub occurs : Pattern → List ℕ → ℕ → Bool
occurs p word at =
    bytes_eq (letters_after word at (length p.letters)) p.letters
    && (not p.start || (at == 0))
    && (not p.end || (at + length p.letters == length word))

-- all pairs of a pattern and a position where it occurs in the word
abbrev pub occurrences : List Pattern → List ℕ → List (Pattern × ℕ)
occurrences patterns word =
    flat_map (λ p. map (λ at. (p, at)) (filter (occurs p word) (range_with_len 0 (length word + 1)))) patterns

-- what values that begin at the place `at` say of the place h, 0 where they do not reach it
abbrev pub value_at : List ℕ → ℕ → ℕ → ℕ
value_at values at h = if nat_le at h then slice_index values (h - at) else 0

-- the greatest value at the place h over all occurrences, 0 where there is none
abbrev pub greatest_value : List Pattern → List ℕ → ℕ → ℕ
greatest_value patterns word h = greatest (map (λ o. value_at o.0.values o.1 h) (occurrences patterns word))

-- the last exception with the letters of the word
abbrev pub exception_of : List Exception → List ℕ → Option Exception
exception_of exceptions word = find (λ e. bytes_eq word e.letters) (reverse exceptions)

-- A word that is an exception may be broken at the exception's places, any other where the greatest value is odd.
abbrev pub is_break : Option (List ℕ) → ℕ → ℕ → Bool
is_break (Some places) value h = list_any (λ place. place == h) places
is_break None value h = value % 2 == 1

abbrev pub places_of_exception : Option Exception → Option (List ℕ)
places_of_exception None = None
places_of_exception (Some e) = Some e.places

-- a margin, brought into 1 to 63
abbrev pub margin : ℤ → ℕ
margin (pos n) = max 1 (min n 63)
margin (negsuc n) = 1

-- the places with at least the left margin before them and the right margin after them that pass the test, ascending
abbrev pub places_within : ℕ → ℤ → ℤ → (ℕ → Bool) → List ℕ
places_within len left right test =
    filter (λ h. nat_le (margin left) h && nat_le (h + margin right) len && test h) (range_with_len 0 (len + 1))

-- the hyphen places of the word
abbrev pub places_of : List Pattern → List Exception → List ℕ → ℤ → ℤ → List ℕ
places_of patterns exceptions word left right =
    places_within (length word) left right
    (λ h. is_break (places_of_exception (exception_of exceptions word)) (greatest_value patterns word h) h)
