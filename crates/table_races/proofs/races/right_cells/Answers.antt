use Rattle.std.proofs.Common.{◌≡◌}
use Rattle.table_races.proofs.CrewLemmas.{alone-after}
use Rattle.table_races.proofs.races.right_cells.Goals as goal

pub returns-clause-alone : goal.returns-clause-alone
returns-clause-alone c = alone-after c.args.seat.now.view c.loop-cell.seat.view c.loop-cell.invariant.stays c.requires.alone
