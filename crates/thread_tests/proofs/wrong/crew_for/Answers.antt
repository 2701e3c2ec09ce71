use Rattle.std.proofs.Common.{◌∙◌, arith}
use Rattle.thread_tests.proofs.wrong.crew_for.Goals as goal

pub returns-clause-bases : goal.returns-clause-bases
returns-clause-bases c = c.in_ok-table.ensures.table.0 ∙ c.in_ok-bases.ensures

pub returns-clause-draws : goal.returns-clause-draws
returns-clause-draws c = omega (arith, c.in_ok-table.ensures.table.1, c.len.ensures, c.requires.job.few_pars)

pub returns-clause-seats : goal.returns-clause-seats
returns-clause-seats c = c.in_ok-seats.ensures.seats
