-- What is kept of a break is read by its rank.
use Rattle.std.proofs.Common.{ap, sym, ◌∙◌, subst, arith}
use Rattle.break_rule.specs.Kept.{opening_of}
use Rattle.break_rule.specs.Made.{IsPlace, IsFrom}
use Rattle.break_rule.proofs.KeptReads.{ranks_long, openings_long, opening_kept}
use Rattle.break_rule.proofs.rule.BreakRule.opening.Goals as goal

pub index-requires : goal.index-requires
index-requires c =
    let there : IsPlace c.args.self.now c.in-After.at = subst (IsFrom c.args.self.now) c.in-After.is c.requires in
    let long = ranks_long _ _ _ c.self.invariant c.self.view_is c.in-After.at there in
    omega (arith, long, c.self.inside.ranks.ok.0)

pub index-requires-in-After : goal.index-requires-in-After
index-requires-in-After c =
    let there : IsPlace c.args.self.now c.in-After.at = subst (IsFrom c.args.self.now) c.in-After.is c.requires in
    let long = openings_long _ _ _ c.self.invariant c.self.view_is c.in-After.at _ there c.index.ensures in
    omega (arith, long, c.self.inside.openings.ok.0)

pub returns-in-After-clause-exact : goal.returns-in-After-clause-exact
returns-in-After-clause-exact c =
    let there : IsPlace c.args.self.now c.in-After.at = subst (IsFrom c.args.self.now) c.in-After.is c.requires in
    (opening_kept _ _ _ c.self.invariant c.self.view_is c.in-After.at _ _ there c.index.ensures c.index-in-After.ensures).0
    ∙ ap (opening_of c.args.self.now.stock c.args.self.now.items) (sym c.in-After.is)

pub returns-in-After-clause-small : goal.returns-in-After-clause-small
returns-in-After-clause-small c =
    let there : IsPlace c.args.self.now c.in-After.at = subst (IsFrom c.args.self.now) c.in-After.is c.requires in
    (opening_kept _ _ _ c.self.invariant c.self.view_is c.in-After.at _ _ there c.index.ensures c.index-in-After.ensures).1
