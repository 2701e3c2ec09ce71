-- Which of the recorded lines become nodes, as the array keeps them.
--     is_good_line, is_made  whether a line stands beside another, and among all
use Rattle.std.specs.Prelude.{ℕ, ◌-◌, ◌&&◌, ◌||◌, pos, ◌+ℤ◌, Bool, not, int_le, List}
use Rattle.std.specs.List.{list_all}
use Rattle.line_break.specs.Ways.{same_start, awful_bad}
use Rattle.break_sweep.specs.declared.made.Made.{Made}

abbrev pub is_good_line : ℕ → Made → Made → Bool
is_good_line slack m other = not (same_start other.node m.node) || int_le m.total (other.total +ℤ pos slack)

-- A node is made of a line whose total is at most the least one of its group plus the slack, and below the bound.
abbrev pub is_made : ℕ → List Made → Made → Bool
is_made slack best m = list_all (is_good_line slack m) best && int_le m.total (pos (awful_bad - 1))
