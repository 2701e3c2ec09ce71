-- Passes worked out by hand. Where a text is given, letters are 5 points wide and a space 2.5 points, with a stretch of
-- 1.25 and a shrink of 0.625 points; linepenalty is 10 and adjdemerits 10000.
--     two_ways               `aa bb cc` with a right margin that stretches without bound, 25 points wide
--     rescued_end            `aa bb cc dd`, 24 points wide, in the passes with pretolerance and with tolerance
--     class_tie              two ways that differ first in a class
--     late_rescue            no line is good enough, and two nodes are open
--     poor_class             of two classes at a place one doesn't stand, and the place is left by a rescue
--     twelve_words           twelve words of three letters, 20 points wide
--     hanging                `aa bb cc dd ee`, 35 points wide, all lines but the first hanging by 12.5
use Rattle.std.specs.Prelude.{ℕ, ◌+◌, ◌*◌, ℤ, pos, Bool, true, false, nat_lt, if◌then◌else◌, List, [], ◌∷◌, map, Option, Some}
use Rattle.line_break.specs.declared.table.Line.{Line}
use Rattle.line_break.specs.declared.table.Table.{Table}
use Rattle.line_break.specs.Tables.{pass_of}
use Rattle.line_break.specs.Taken.{Taken, first_taken}

abbrev pub square_below : ℕ → ℕ
square_below n = if nat_lt n 10000 then n * n else 100000000

-- a line of a group, whose demerits but for the classes are the square of linepenalty and badness
abbrev pub line : ℕ → ℕ → ℕ → ℕ → ℕ → ℕ → Line
line linepenalty from group to badness class = record {
  from = from;
  group = group;
  to = to;
  badness = badness;
  class = class;
  demerits = pos (square_below (linepenalty + badness));
}

abbrev pub ten : ℕ → ℕ → ℕ → ℕ → ℕ → Line
ten = line 10

abbrev pub zero_penalty : ℕ → ℕ → ℕ → ℕ → Line
zero_penalty from to badness class = line 0 from 1 to badness class

abbrev pub two_ways : ℕ → List Line → Option ℕ → Bool → Table
two_ways threshold lines ended last = record {
  legal = 2 ∷ 5 ∷ 10 ∷ [];
  forced = 3 ∷ [];
  lines = lines;
  adjdemerits = pos 10000;
  threshold = pos threshold;
  last = last;
  open_ended = ended;
}

-- Any line that isn't longer than 25 points has badness 0 and class 2: each but that from the start to the end.
abbrev pub one_group : List Line
one_group = ten 0 1 1 0 2 ∷ ten 0 1 2 0 2 ∷ ten 1 1 2 0 2 ∷ ten 1 1 3 0 2 ∷ ten 2 1 3 0 2 ∷ []

-- the same, where each line is a group of its own
abbrev pub three_groups : List Line
three_groups = ten 0 1 1 0 2 ∷ ten 0 1 2 0 2 ∷ ten 1 2 2 0 2 ∷ ten 1 2 3 0 2 ∷ ten 2 2 3 0 2 ∷ ten 2 3 3 0 2 ∷ []

-- A line of two words has 1.5 points to stretch: badness 172 and class 0. A line of one word cannot stretch at all,
-- but the last line stretches without bound. Three words are overfull.
abbrev pub rescued_end : ℤ → ℕ → Bool → Table
rescued_end adjdemerits threshold last = record {
  legal = 2 ∷ 5 ∷ 8 ∷ 13 ∷ [];
  forced = 4 ∷ [];
  lines = ten 0 1 1 10000 0 ∷ ten 0 1 2 172 0 ∷ ten 1 1 2 10000 0 ∷ ten 1 1 3 172 0 ∷ ten 2 1 3 10000 0 ∷ ten 2 1 4 0 2 ∷ ten 3 1 4 0 2 ∷ [];
  adjdemerits = adjdemerits;
  threshold = pos threshold;
  last = last;
  open_ended = Some 1;
}

-- Without linepenalty and with adjdemerits 1, the ways by places 2 and 1, 2 to the end both have total 1.
abbrev pub class_tie : Table
class_tie = record {
  legal = 1 ∷ 2 ∷ 3 ∷ [];
  forced = 3 ∷ [];
  lines = zero_penalty 0 1 1 3 ∷ zero_penalty 0 2 0 3 ∷ zero_penalty 1 2 0 2 ∷ zero_penalty 2 3 0 1 ∷ [];
  adjdemerits = pos 1;
  threshold = pos 2;
  last = false;
  open_ended = Some 1;
}

-- The lines to the end from the first two places are too bad, and the end is forced. The line between the two is bad,
-- but not overfull, so that both nodes are open to the end.
abbrev pub late_rescue : Table
late_rescue = record {
  legal = 1 ∷ 2 ∷ 3 ∷ [];
  forced = 3 ∷ [];
  lines = zero_penalty 0 1 1 2 ∷ zero_penalty 0 2 2 2 ∷ zero_penalty 1 2 10000 0 ∷ zero_penalty 1 3 300 2 ∷ zero_penalty 2 3 400 2 ∷ [];
  adjdemerits = pos 0;
  threshold = pos 200;
  last = true;
  open_ended = Some 1;
}

-- To place 2 there is a tight line from the start with demerits 1, and a loose line from place 1 by which the total is
-- 4 + 9. With no slack the latter doesn't stand. All lines to the end are overfull.
abbrev pub poor_class : Table
poor_class = record {
  legal = 1 ∷ 2 ∷ 3 ∷ [];
  forced = 3 ∷ [];
  lines = zero_penalty 0 1 2 2 ∷ zero_penalty 0 2 1 1 ∷ zero_penalty 1 2 3 3 ∷ [];
  adjdemerits = pos 0;
  threshold = pos 200;
  last = true;
  open_ended = Some 1;
}

-- The first line has 35 points, and three words fill them; later lines have 22.5, and two words fill them.
abbrev pub hanging : Table
hanging = record {
  legal = 2 ∷ 5 ∷ 8 ∷ 11 ∷ 16 ∷ [];
  forced = 5 ∷ [];
  lines = ten 0 1 1 10000 0 ∷ ten 0 1 2 10000 0 ∷ ten 0 1 3 0 2 ∷ ten 3 2 4 10000 0 ∷ ten 3 2 5 0 2 ∷ [];
  adjdemerits = pos 10000;
  threshold = pos 100;
  last = false;
  open_ended = Some 2;
}

-- A line of one word cannot stretch, and a line of two is overfull. The last line is that of the last word.
abbrev pub twelve_words : Table
twelve_words = record {
  legal = 3 ∷ 7 ∷ 11 ∷ 15 ∷ 19 ∷ 23 ∷ 27 ∷ 31 ∷ 35 ∷ 39 ∷ 43 ∷ 49 ∷ [];
  forced = 12 ∷ [];
  lines =
      ten 0 1 1 10000 0 ∷ ten 1 1 2 10000 0 ∷ ten 2 1 3 10000 0 ∷ ten 3 1 4 10000 0 ∷ ten 4 1 5 10000 0 ∷ ten 5 1 6 10000 0 ∷
      ten 6 1 7 10000 0 ∷ ten 7 1 8 10000 0 ∷ ten 8 1 9 10000 0 ∷ ten 9 1 10 10000 0 ∷ ten 10 1 11 10000 0 ∷ ten 11 1 12 0 2 ∷ [];
  adjdemerits = pos 10000;
  threshold = pos 10000;
  last = true;
  open_ended = Some 1;
}

-- the passes of a paragraph: with pretolerance 100, and with tolerance 200, which is final
abbrev pub two_passes : List Line → Option ℕ → List (ℕ × Table)
two_passes lines ended = (1, two_ways 100 lines ended false) ∷ (2, two_ways 200 lines ended true) ∷ []

abbrev pub rescue_passes : ℤ → List (ℕ × Table)
rescue_passes adjdemerits = (1, rescued_end adjdemerits 100 false) ∷ (2, rescued_end adjdemerits 200 true) ∷ []

-- what breaking gives at a looseness, by the passes of some tables with their numbers
abbrev pub outcome : ℤ → List (ℕ × Table) → Option Taken
outcome looseness tables = first_taken looseness (map (λ t. (t.0, pass_of t.1)) tables)

abbrev pub taken : ℕ → List ℕ → ℕ → Option Taken
taken number breaks total = Some (record { number = number; breaks = breaks; total = pos total })
