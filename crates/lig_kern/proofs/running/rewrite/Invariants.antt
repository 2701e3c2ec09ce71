-- The steps so far lead to the glyphs that are done and the symbols ahead.
use Rattle.std.proofs.Common.{◌≡◌, ◌+◌, ◌-◌, ◌*◌, ◌≤◌, List, length}
use Rattle.lig_kern.specs.Rewriting.{Reached}
use Rattle.lig_kern.specs.Symbols.{glyphs_of}
use Rattle.lig_kern.specs.declared.symbols.Symbol.{Symbol}
use Rattle.lig_kern.proofs.running.rewrite.Given as goal

abbrev pub invariant-loop-current : goal.invariant-loop-current
invariant-loop-current l = record {
  within : l.acted ≤ l.limit;
  reached : (before : List Symbol) × Reached l.tfm l.fn.state.ahead l.acted before l.state.ahead
      × (l.state.done ≡ glyphs_of before);
}

abbrev pub decreases-loop-current : goal.decreases-loop-current
decreases-loop-current l = length l.state.ahead + 2 * (l.limit - l.acted)
