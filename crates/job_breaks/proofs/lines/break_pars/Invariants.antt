-- The lines so far and those to come are all lines.
use Rattle.std.proofs.Common.{◌≡◌, ◌+◌, drop, length}
use Rattle.hlist_hyph.specs.Hyphenated.{places_in}
use Rattle.job_breaks.specs.Lines.{lines_from}
use Rattle.job_breaks.proofs.ParLines.{behind}
use Rattle.job_breaks.proofs.lines.break_pars.Given as goal

abbrev pub invariant-loop-par : goal.invariant-loop-par
invariant-loop-par l = record {
  all : behind l.lines (lines_from l.tables (places_in l.patterns) l.stock (l.par-index + 1) (drop l.par-index l.pars))
      ≡ lines_from l.tables (places_in l.patterns) l.stock 1 l.pars;
  count : length l.lines ≡ l.par-index;
}
