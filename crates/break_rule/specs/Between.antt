-- The hangs of a line from what its two ends keep.
use Rattle.std.specs.Prelude.{ℕ, nat_lt, ℤ, pos, Option, Some, None, unwrap_or, if◌then◌else◌}
use Rattle.std.specs.Option.{option_or}
use Rattle.break_rule.specs.declared.margin.Stop.{Stop}
use Rattle.break_rule.specs.declared.ends.Opening.{Opening}
use Rattle.break_rule.specs.declared.ends.Closing.{Closing}

-- the hang of a stop before a place, and of one behind it
abbrev pub stop_before : ℕ → Stop → Option ℤ
stop_before place stop = if nat_lt stop.at place then Some stop.hang else None

abbrev pub stop_behind : ℕ → Stop → Option ℤ
stop_behind place stop = if nat_lt place stop.at then Some stop.hang else None

unfoldable pub left_between : Opening → Closing → ℕ → ℤ
left_between opening closing to =
    unwrap_or (option_or opening.left (option_or (stop_before to opening.ahead) closing.left)) (pos 0)

unfoldable pub right_between : Opening → Closing → ℤ
right_between opening closing =
    unwrap_or (option_or closing.right (option_or (stop_behind opening.begin closing.behind) opening.right)) (pos 0)
