use Rattle.std.proofs.Common.{◌<◌, ◌++◌, ℕ, true, List, map, filter, length, get_or, Option, refl, sym, ap, ◌∙◌, subst, arith}
use Rattle.std.specs.List.{All, fold}
use Rattle.std.specs.Option.{option_to_list}
use Rattle.std.proofs.lemmas.List.{append-nil, drop_all}
use Rattle.std.proofs.lemmas.List.Elements.{All-nil}
use Rattle.line_break.specs.Sweep.{kept, put, tried}
use Rattle.break_sweep.specs.declared.made.Made.{Made}
use Rattle.break_sweep.specs.Made.{listed, ways_of, way_of, no_made, IsFound}
use Rattle.break_sweep.proofs.NodeWays.{listed_length}
use Rattle.break_sweep.proofs.Tries.{lives_on, near_at, tried_more, living_more, named_more, line_found, none_is}
use Rattle.break_sweep.proofs.trying.try_nodes.Goals as goal

pub loop-i-init : goal.loop-i-init
unfolding kept listed
loop-i-init g c =
    let q = g.L.Lines.pass c.args.lines.now in
    let to = c.args.stop.place in
    let ws = ways_of c.args.nodes.now in
    let all = listed ws c.args.active.now in (
      ap (λ (l : List Made). fold (put q) (map (way_of ws) l) (tried q to true all)) c.requires.none_best,
      ap (λ (l : List ℕ). listed ws l ++ filter (lives_on q to) all) c.requires.none_living,
      subst (All (λ i. i < length c.args.nodes.now)) (sym c.requires.none_living) (All-nil (λ i. i < length c.args.nodes.now)),
      subst (All (IsFound to (length c.args.nodes.now))) (sym c.requires.none_best) (All-nil (IsFound to (length c.args.nodes.now))),
    )

pub try_node-trial-requires-clause-near : goal.try_node-trial-requires-clause-near
try_node-trial-requires-clause-near g c =
    near_at (g.L.Lines.pass c.args.lines.now) c.args.stop.place c.args.nodes.now c.args.active.now c.loop-i.i _ (omega arith) (c.requires.named c.loop-i.i 0 (omega arith)) c.requires.near

pub loop-i-preserved : goal.loop-i-preserved
loop-i-preserved g c =
    let q = g.L.Lines.pass c.args.lines.now in
    let to = c.args.stop.place in
    let ms = c.args.nodes.now in
    let is = c.args.active.now in
    let i = c.loop-i.i in
    let h : i < length is = omega arith in
    let k = c.requires.named i 0 h in (
      tried_more q to ms is i _ h k c.loop-i.quiet c.try_node-trial.result.dies c.is_none.result _ c.try_node-trial.result.line
          (map (way_of (ways_of ms)) c.loop-i.best.items) _ _ c.try_node-trial.ensures.dies (none_is _ _ c.is_none.ensures) refl c.try_node-trial.ensures.line
          (c.in_ok-put_tried.ensures.put q (ways_of ms) (sym c.open_ended.ensures)) c.loop-i.invariant.0,
      living_more q to ms is i _ h k c.try_node-trial.result.dies c.loop-i.living.items _ _ c.try_node-trial.ensures.dies c.in_ok-keep_living.ensures c.loop-i.invariant.1,
      subst (All (λ k. k < length ms)) (sym c.in_ok-keep_living.ensures) (named_more (length ms) c.loop-i.living.items c.try_node-trial.result.dies (get_or is i 0) c.loop-i.invariant.2 k),
      c.in_ok-put_tried.ensures.found to (length ms)
          (subst (λ (o : Option Made). All (IsFound to (length ms)) (option_to_list o)) (sym c.try_node-trial.ensures.line)
          (line_found q to (length ms) c.loop-i.quiet _ (get_or is i 0) (get_or ms (get_or is i 0) no_made) k (near_at q to ms is i no_made h k c.requires.near).high))
          c.loop-i.invariant.3,
    )

pub returns-clause-living : goal.returns-clause-living
returns-clause-living g c =
    let n = listed_length (ways_of c.args.nodes.now) c.args.active.now in
    let q = g.L.Lines.pass c.args.lines.now in
    let to = c.args.stop.place in
    let living = listed (ways_of c.args.nodes.now) c.loop-i.living.items in
    let all = listed (ways_of c.args.nodes.now) c.args.active.now in
    let done = drop_all c.loop-i.i all (omega arith) in
    sym (append-nil living) ∙ (ap (λ l. living ++ filter (lives_on q to) l) (sym done) ∙ c.loop-i.invariant.1)

pub returns-clause-best : goal.returns-clause-best
unfolding tried
returns-clause-best g c =
    let n = listed_length (ways_of c.args.nodes.now) c.args.active.now in
    let q = g.L.Lines.pass c.args.lines.now in
    let to = c.args.stop.place in
    let best = map (way_of (ways_of c.args.nodes.now)) c.loop-i.best.items in
    let all = listed (ways_of c.args.nodes.now) c.args.active.now in
    let done = drop_all c.loop-i.i all (omega arith) in
    ap (λ l. fold (put q) best (tried q to c.loop-i.quiet l)) (sym done) ∙ c.loop-i.invariant.0
