-- The codes from `at` on stand there.
use Rattle.std.proofs.Common.{◌≡◌, ◌≤◌, drop, length}
use Rattle.lig_kern.specs.Running.{code_symbols}
use Rattle.lig_kern.proofs.running.push_codes.Given as goal

abbrev pub invariant-loop-at : goal.invariant-loop-at
invariant-loop-at l = record {
  within : l.at ≤ length l.codes;
  symbols : l.symbols ≡ code_symbols l.at (drop l.at l.codes) l.fn.symbols;
}

abbrev pub decreases-loop-at : goal.decreases-loop-at
decreases-loop-at l = l.at
