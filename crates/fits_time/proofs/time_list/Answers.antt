use Rattle.list_fonts.proofs.OverLaws.{list_over}
use Rattle.fits_time.proofs.time_list.Goals as goal

pub make-requires-clause-over : goal.make-requires-clause-over
make-requires-clause-over g c = list_over c.args.stock.now c.args.list.now c.requires.own
