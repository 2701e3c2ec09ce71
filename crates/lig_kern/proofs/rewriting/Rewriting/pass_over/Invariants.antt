-- What is left to pass over comes to what the whole does.
use Rattle.std.proofs.Common.{◌≡◌, ◌++◌, take, drop}
use Rattle.lig_kern.specs.Symbols.{glyphs_of}
use Rattle.lig_kern.proofs.rewriting.Rewriting.pass_over.Given as goal

abbrev pub invariant-loop-left : goal.invariant-loop-left
invariant-loop-left l = record {
  done : l.self.done ++ glyphs_of (take l.left l.self.ahead)
      ≡ l.fn.self.done ++ glyphs_of (take l.count l.fn.self.ahead);
  ahead : drop l.left l.self.ahead ≡ drop l.count l.fn.self.ahead;
}

abbrev pub decreases-loop-left : goal.decreases-loop-left
decreases-loop-left l = l.left
