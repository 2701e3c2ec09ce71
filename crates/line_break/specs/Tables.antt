-- The pass that a table writes out.
use Rattle.std.specs.Prelude.{ℕ, ◌+◌, ◌==◌, ◌&&◌, ◌||◌, ℤ, pos, ◌+ℤ◌, Bool, nat_lt, if◌then◌else◌, unsigned_abs, List, Option, Some, None}
use Rattle.std.specs.List.{find, list_any}
use Rattle.line_break.specs.declared.table.Line.{Line}
use Rattle.line_break.specs.declared.table.Table.{Table}
use Rattle.line_break.specs.Pass.{Pass}

abbrev pub joins : Line → ℕ → ℕ → ℕ → Bool
joins l from group to = (l.from == from) && (l.group == group) && (l.to == to)

abbrev pub line_at : List Line → ℕ → ℕ → ℕ → Option Line
line_at lines from group to = find (λ l. joins l from group to) lines

abbrev pub badness_of : Option Line → ℕ
badness_of None = 10001
badness_of (Some l) = l.badness

abbrev pub class_of : Option Line → ℕ
class_of None = 3
class_of (Some l) = l.class

abbrev pub demerits_of : Option Line → ℤ
demerits_of None = pos 0
demerits_of (Some l) = l.demerits

-- whether two classes differ by more than 1
abbrev pub far_apart : ℕ → ℕ → Bool
far_apart c d = nat_lt (c + 1) d || nat_lt (d + 1) c

abbrev pub adjacent : ℤ → ℕ → ℕ → ℤ
adjacent adjdemerits c d = if far_apart c d then adjdemerits else pos 0

unfoldable pub pass_of : Table → Pass
pass_of t = record {
  legal = t.legal;
  forced = λ place. list_any (λ k. k == place) t.forced;
  badness = λ from group to. badness_of (line_at t.lines from group to);
  class = λ from group to. class_of (line_at t.lines from group to);
  demerits = λ x to. let l = line_at t.lines x.place x.group to in demerits_of l +ℤ adjacent t.adjdemerits x.class (class_of l);
  threshold = t.threshold;
  slack = unsigned_abs t.adjdemerits;
  final = t.last;
  open_ended = t.open_ended;
}
