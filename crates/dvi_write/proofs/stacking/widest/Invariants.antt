use Rattle.std.proofs.Common.{◌≡◌, drop, map, fold, pos}
use Rattle.std.specs.Int.{int_max}
use Rattle.instance_core.specs.declared.page.Packed.{Packed}
use Rattle.dvi_write.proofs.stacking.widest.Given as goal

abbrev pub invariant-loop-line : goal.invariant-loop-line
invariant-loop-line l =
    fold int_max l.greatest (map (λ (line : Packed). line.width) (drop l.line-index l.lines)) ≡ fold int_max (pos 0) (map (λ (line : Packed). line.width) l.lines)
