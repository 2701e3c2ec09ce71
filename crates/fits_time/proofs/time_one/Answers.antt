use Rattle.list_fonts.proofs.PartFonts.{built_shares}
use Rattle.fits_time.proofs.time_one.Goals as goal

pub time_breaks-requires-clause-share : goal.time_breaks-requires-clause-share
time_breaks-requires-clause-share g c =
    built_shares c.args.par.now c.args.tables.now c.args.stock.now c.in-Ok.list c.in-Ok.ensures.exact

pub time_list-requires-clause-share : goal.time_list-requires-clause-share
time_list-requires-clause-share g c =
    built_shares c.args.par.now c.args.tables.now c.args.stock.now c.in-Ok.list c.in-Ok.ensures.exact
