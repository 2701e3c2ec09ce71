-- The line of the paragraph's list, or its fault with its number.
use Rattle.list_fonts.proofs.PartFonts.{built_shares}
use Rattle.hlist_hyph.specs.Hyphenated.{places_in}
use Rattle.job_breaks.proofs.ParLines.{tells-fault, tells-line}
use Rattle.job_breaks.proofs.lines.line_of_par.Goals as goal

pub returns-in-Err : goal.returns-in-Err
returns-in-Err c =
    tells-fault c.args.tables.now (places_in c.args.patterns.now) c.args.stock.now c.args.number c.args.par.now c.in-Err.fault _
    c.set_fault.ensures c.in-Err.ensures.exact

pub line_of_list-requires-clause-share : goal.line_of_list-requires-clause-share
line_of_list-requires-clause-share c =
    built_shares c.args.par.now c.args.tables.now c.args.stock.now c.in-Ok.list c.in-Ok.ensures.exact

pub returns-in-Ok-line_of_list : goal.returns-in-Ok-line_of_list
returns-in-Ok-line_of_list c =
    tells-line c.args.tables.now (places_in c.args.patterns.now) c.args.stock.now c.args.number c.args.par.now c.in-Ok.list c.in-Ok-line_of_list.line
    c.in-Ok.ensures.exact c.in-Ok-line_of_list.ensures
