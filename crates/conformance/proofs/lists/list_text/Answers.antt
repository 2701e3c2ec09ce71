use Rattle.list_fonts.proofs.PartFonts.{built_shares}
use Rattle.conformance.proofs.lists.list_text.Goals as goal

pub shown-requires-clause-share : goal.shown-requires-clause-share
shown-requires-clause-share c = built_shares c.args.par.now c.args.tables.now c.args.stock.now c.in-Ok.list c.in-Ok.ensures.exact
