-- The list of a paragraph has fonts that expand alike.
use Rattle.list_fonts.proofs.PartFonts.{built_shares}
use Rattle.conformance.proofs.set_lines.tell_paragraph.Goals as goal

pub tell_lines-requires-clause-share : goal.tell_lines-requires-clause-share
tell_lines-requires-clause-share g c =
    built_shares c.args.par.now c.args.tables.now c.args.stock.now c.in-Ok.list c.in-Ok.ensures.exact
