-- What is kept of an opening is what the scan read there.
use Rattle.std.proofs.Common.{◌^◌, length, arith}
use Rattle.break_rule.specs.Kept.{opening_with}
use Rattle.break_rule.proofs.Totals.{minus-within, within-more}
use Rattle.break_rule.proofs.ScanReads.{before_at, rest_at, small_before, small_rest, fronts_length, backs_length}
use Rattle.break_rule.proofs.opening.opening_with.Goals as goal

pub index-requires : goal.index-requires
index-requires c = omega (arith, c.requires.within, fronts_length _ _ _ _ c.requires.scan)

pub index-rest-requires : goal.index-rest-requires
index-rest-requires c = omega (arith, c.requires.within, backs_length _ _ _ _ c.requires.scan)

pub minus-requires-clause-own : goal.minus-requires-clause-own
minus-requires-clause-own c =
    let small = small_before _ _ _ _ c.requires.scan c.args.begin _ c.requires.within c.index.ensures in
    within-more 65536 (2 ^ 20) _ (omega arith) small.sums

pub returns-clause-exact : goal.returns-clause-exact
unfolding opening_with
returns-clause-exact c =
    let before = before_at _ _ _ _ c.requires.scan c.args.begin _ c.requires.within c.index.ensures in
    let rest = rest_at _ _ _ _ c.requires.scan c.args.begin _ _ c.requires.within (omega arith) c.index-rest.ensures in
    cc (before.0, rest.1, c.minus.ensures, c.subs_sums.ensures.exact, c.subs_margin.ensures.exact, c.subs_margin-2.ensures.exact)

pub returns-clause-small : goal.returns-clause-small
returns-clause-small c =
    let small = small_before _ _ _ _ c.requires.scan c.args.begin _ c.requires.within c.index.ensures in
    record {
      less = rw c.minus.ensures (within-more _ 98304 _ (omega (arith, c.requires.breaks)) (minus-within 65536 (length c.args.post.now) _ _ small.sums c.subs_sums.ensures.small));
      left = c.subs_margin.ensures.small;
      right = c.subs_margin-2.ensures.small;
      ahead = small_rest _ _ _ _ c.requires.scan _ _ (omega arith) c.index-rest.ensures;
    }
