use Rattle.std.proofs.Common.{◌≡◌, drop, pos}
use Rattle.std.specs.List.{position_from}
use Rattle.std.specs.Prelude.{position}
use Rattle.font_stock.specs.Refusals.{is_past}
use Rattle.font_stock.proofs.widths.first_wide_kern.Given as goal

abbrev pub invariant-loop-index : goal.invariant-loop-index
invariant-loop-index l =
    position (is_past (pos l.stretch)) l.kerns ≡ position_from (is_past (pos l.stretch)) l.index (drop l.index l.kerns)
