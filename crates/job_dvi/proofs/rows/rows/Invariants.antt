-- The rows so far are those of the fonts so far.
use Rattle.std.proofs.Common.{◌≡◌, take}
use Rattle.job_dvi.specs.Rows.{rows_of}
use Rattle.job_dvi.proofs.rows.rows.Given as goal

abbrev pub invariant-loop-number : goal.invariant-loop-number
invariant-loop-number l = l.rows ≡ rows_of (take l.number l.fonts) l.stock
