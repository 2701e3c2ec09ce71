use Rattle.std.proofs.Common.{◌≡◌, ◌≢◌, ◌<◌, ◌≤◌, ◌+◌, ◌-◌, ℕ, List, length, drop, get_or, sym, ap, ◌∙◌, subst, arith}
use Rattle.std.specs.List.{All, fold}
use Rattle.std.proofs.lemmas.List.{drop_all}
use Rattle.std.specs.declared.cmp.Ordering.TheVariants.{Less}
use Rattle.line_break.specs.Pass.{order}
use Rattle.line_break.specs.Sweep.{put}
use Rattle.break_sweep.specs.Made.{listed, ways_of, no_made}
use Rattle.break_sweep.proofs.NodeWays.{ways_length}
use Rattle.break_sweep.proofs.PutLines.{all_inserted}
use Rattle.break_sweep.specs.Joining.{IsToJoin}
use Rattle.break_sweep.proofs.Joins.{join_more}
use Rattle.break_sweep.proofs.making.join.Goals as goal

pub loop-index-preserved : goal.loop-index-preserved
loop-index-preserved c =
    let ms = c.args.nodes.now in
    let ws = ways_of ms in
    let old = c.loop-index.active.items in
    let index = c.loop-index.index in
    let h : index < length ms = omega arith in
    let at = c.place_for-at.result in
    let x = (get_or ms index no_made).node in
    let slice = c.as_slice.ensures.value in
    let within : at ≤ length old = subst (λ (l : List ℕ). at ≤ length l) slice c.place_for-at.ensures.within in
    let above : (k : ℕ) → at ≤ k → k < length old → order c.args.ended x (get_or ms (get_or old k 0) no_made).node ≡ Less =
    subst (λ (l : List ℕ). (k : ℕ) → at ≤ k → k < length l → order c.args.ended x (get_or ms (get_or l k 0) no_made).node ≡ Less) slice
    (λ k a b. c.place_for-at.ensures.above k no_made a b) in
    let below : 0 < at → order c.args.ended x (get_or ms (get_or old (at - 1) 0) no_made).node ≢ Less =
    subst (λ (l : List ℕ). 0 < at → order c.args.ended x (get_or ms (get_or l (at - 1) 0) no_made).node ≢ Less) slice
    (λ a. c.place_for-at.ensures.below no_made a) in
    let j = join_more c.args.ended ms old index at no_made c.loop-index.invariant.0 h within above below c.loop-index.invariant.1 in
    let e = sym c.in_ok-insert.ensures.items in (
      subst (All (λ i. i < length ms)) e (all_inserted (λ i. i < length ms) old c.place_for-at.result index h c.loop-index.invariant.0),
      subst (λ (l : List ℕ). IsToJoin c.args.ended (listed ws l) (drop (index + 1) ws)) e j.0,
      λ q f. ap (λ (l : List ℕ). fold (put q) (listed ws l) (drop (index + 1) ws)) (sym e) ∙ (j.1 q f ∙ c.loop-index.invariant.2 q f),
    )

pub returns-clause-put : goal.returns-clause-put
returns-clause-put c = λ q e.
    let n = ways_length c.args.nodes.now in
    let some = listed (ways_of c.args.nodes.now) c.loop-index.active.items in
    let done = drop_all c.loop-index.index (ways_of c.args.nodes.now) (omega arith) in
    ap (fold (put q) some) (sym done) ∙ c.loop-index.invariant.2 q e
