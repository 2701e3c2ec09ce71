-- What is kept of a place is read by its rank.
use Rattle.std.proofs.Common.{arith}
use Rattle.break_rule.proofs.KeptReads.{ranks_long, closings_long, closing_kept}
use Rattle.break_rule.proofs.rule.BreakRule.closing.Goals as goal

pub index-requires : goal.index-requires
index-requires c =
    let long = ranks_long _ _ _ c.self.invariant c.self.view_is c.args.to c.requires in
    omega (arith, long, c.self.inside.ranks.ok.0)

pub index-requires-2 : goal.index-requires-2
index-requires-2 c =
    let long = closings_long _ _ _ c.self.invariant c.self.view_is c.args.to _ c.requires c.index.ensures in
    omega (arith, long, c.self.inside.closings.ok.0)

pub returns-clause-exact : goal.returns-clause-exact
returns-clause-exact c =
    (closing_kept _ _ _ c.self.invariant c.self.view_is c.args.to _ _ c.requires c.index.ensures c.index-2.ensures).0

pub returns-clause-small : goal.returns-clause-small
returns-clause-small c =
    (closing_kept _ _ _ c.self.invariant c.self.view_is c.args.to _ _ c.requires c.index.ensures c.index-2.ensures).1
