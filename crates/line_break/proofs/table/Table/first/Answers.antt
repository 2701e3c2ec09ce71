use Rattle.std.proofs.Common.{◌∙◌, ap}
use Rattle.line_break.specs.Listing.{better_of}
use Rattle.line_break.specs.Tables.{pass_of}
use Rattle.line_break.proofs.TableLemmas.{first_back}
use Rattle.line_break.proofs.table.Table.first.Goals as goal

pub loop-back-preserved : goal.loop-back-preserved
unfolding pass_of
loop-back-preserved c =
    let t = c.args.self.now in
    let w = c.index-ways-ways.result in
    c.in_ok-found.ensures
    ∙ (ap (λ end. better_of t.open_ended end c.loop-back.found w) c.len-end.ensures
    ∙ first_back (pass_of t) c.args.ways.now c.loop-back.back w c.loop-back.found c.loop-back-test.true c.index-ways-ways.is c.loop-back.invariant)
