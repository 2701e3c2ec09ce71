-- The pass that is taken, and its way (TeX: The Program, sections 873 to 875).
--     actual_looseness       how many lines more than the best way a pass can have, as near to looseness as it gets
--     is_taken, way_of       whether a pass is taken at a looseness, and the way that it gives
--     breaks_of              the places of a way, as they are called
--     first_taken            what the first pass that is taken gives
use Rattle.std.specs.Prelude.{ℕ, ◌+◌, ◌-◌, ◌&&◌, ◌||◌, ℤ, pos, ◌-ℤ◌, ◌+ℤ◌, Bool, true, false, int_le, if◌then◌else◌, unsigned_abs, List, [], ◌∷◌, map, length, reverse, drop, slice_index, Option, Some, None}
use Rattle.std.specs.List.{filter}
use Rattle.std.specs.Ordering.{nat_cmp, on, int_eq}
use Rattle.line_break.specs.declared.node.Way.{Way}
use Rattle.line_break.specs.Members.{first_by}
use Rattle.line_break.specs.Pass.{Pass, group_of_line}
use Rattle.line_break.specs.Best.{to_the_end, best, best_of_group}

-- A way has a line to each of its nodes but the start.
abbrev pub line_count : Way → ℕ
line_count w = length w.earlier

-- from 0 to the bound, whichever sign that has
abbrev pub reaches_toward : ℤ → ℤ → Bool
reaches_toward bound d = (int_le (pos 0) d && int_le d bound) || (int_le bound d && int_le d (pos 0))

-- how many lines the ways to the end have more than the best one, where that is from 0 to looseness
abbrev pub excesses : ℤ → Way → List Way → List ℤ
excesses looseness b ws = filter (reaches_toward looseness) (map (λ w. pos (line_count w) -ℤ pos (line_count b)) ws)

abbrev pub nearest : ℤ → List ℤ → Option ℤ
nearest looseness ds = first_by (on (λ d. unsigned_abs (looseness -ℤ d)) nat_cmp) ds

abbrev pub actual_by : ℤ → Option Way → List Way → Option ℤ
actual_by looseness None ws = None
actual_by looseness (Some b) ws = nearest looseness (excesses looseness b ws)

unfoldable pub actual_looseness : Pass → ℤ → Option ℤ
actual_looseness q looseness = actual_by looseness (best q) (to_the_end q)

abbrev pub reaches : ℤ → Option ℤ → Bool
reaches looseness None = false
reaches looseness (Some actual) = int_eq actual looseness

-- A pass with a way to the end is taken at looseness 0, where its actual looseness is looseness, or where it is final.
unfoldable pub is_taken : Pass → ℤ → Bool
is_taken q looseness = int_eq looseness (pos 0) || reaches looseness (actual_looseness q looseness) || q.final

-- the best way that has so many lines more than the best way of all
abbrev pub best_with : Pass → Option Way → Option ℤ → Option Way
best_with q None d = None
best_with q (Some b) None = None
best_with q (Some b) (Some d) = best_of_group q (group_of_line q.open_ended (unsigned_abs (pos (line_count b + 1) +ℤ d)))

unfoldable pub way_of : Pass → ℤ → Option Way
way_of q looseness =
    if int_eq looseness (pos 0) then best q else best_with q (best q) (actual_looseness q looseness)

-- the numbers of the places of a way, the start left out
abbrev pub places_of : Way → List ℕ
places_of w = drop 1 (map (λ x. x.place) (reverse (w.last ∷ w.earlier)))

-- the places of a way, as they are called
unfoldable pub breaks_of : Pass → Way → List ℕ
breaks_of q w = map (λ place. slice_index q.legal (place - 1)) (places_of w)

-- what breaking gives: the number of the pass, the names of the places and the total
pub record Taken : Type 0 where
  pub number : ℕ
  pub breaks : List ℕ
  pub total : ℤ

abbrev pub taken_or : Bool → ℕ → Pass → Option Way → Option Taken → Option Taken
taken_or true number q (Some w) rest = Some (record { number = number; breaks = breaks_of q w; total = w.total })
taken_or true number q None rest = rest
taken_or false number q w rest = rest

-- of passes with their numbers the first that is taken
unfoldable pub first_taken : ℤ → List (ℕ × Pass) → Option Taken
first_taken looseness [] = None
first_taken looseness (p ∷ ps) = taken_or (is_taken p.1 looseness) p.0 p.1 (way_of p.1 looseness) (first_taken looseness ps)
