use Rattle.std.proofs.Common.{◌≡◌, drop, pos}
use Rattle.std.specs.List.{position_from}
use Rattle.std.specs.Prelude.{position}
use Rattle.font_stock.specs.Refusals.{is_too_wide}
use Rattle.font_stock.proofs.widths.first_too_wide.Given as goal

abbrev pub invariant-loop-code : goal.invariant-loop-code
invariant-loop-code l =
    position (is_too_wide (pos l.stretch)) l.chars ≡ position_from (is_too_wide (pos l.stretch)) l.code (drop l.code l.chars)
