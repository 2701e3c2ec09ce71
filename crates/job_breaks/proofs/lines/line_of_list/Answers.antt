-- The line tells what the paragraph is broken by.
use Rattle.hlist_hyph.specs.Hyphenated.{places_in}
use Rattle.job_breaks.proofs.ParLines.{line-told}
use Rattle.job_breaks.proofs.lines.line_of_list.Goals as goal

pub returns : goal.returns
returns c =
    line-told c.args.number c.args.par.now c.args.tables.now (places_in c.args.patterns.now c.args.par.now.params) c.args.stock.now c.args.list.now.items
    c.as_slice-shape.result.now c.in_ok-broken.broken c.breaks_line.result c.as_slice-shape.ensures c.in_ok-broken.ensures.broken c.breaks_line.ensures
