-- The fonts of a paragraph's list expand alike.
use Rattle.list_fonts.proofs.PartFonts.{built_shares}
use Rattle.breaks_tests.proofs.random.compared_par.Goals as goal

pub compared-requires-clause-share : goal.compared-requires-clause-share
compared-requires-clause-share c =
    built_shares c.args.par.now c.args.tables.now c.args.stock.now c.in_ok-list.list c.in_ok-list.ensures.exact
