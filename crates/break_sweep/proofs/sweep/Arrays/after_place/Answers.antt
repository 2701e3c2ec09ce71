use Rattle.std.proofs.Common.{◌≡◌, ◌+◌, ◌<◌, ◌++◌, suc, true, List, length, map, filter, sym, ap, ◌∙◌, subst, add-one, arith}
use Rattle.std.specs.List.{All}
use Rattle.line_break.specs.declared.node.Way.{Way}
use Rattle.line_break.specs.Sweep.{active, kept, tried}
use Rattle.break_sweep.specs.declared.made.Made.{Made}
use Rattle.break_sweep.specs.Made.{AreActive, IsFound, IsNear, listed, way_of, ways_of}
use Rattle.break_sweep.specs.Standing.{is_made}
use Rattle.break_sweep.proofs.Actives.{all_among, active_near}
use Rattle.break_sweep.proofs.Places.{Stepped, to_join, joined}
use Rattle.break_sweep.proofs.sweep.Arrays.after_place.Goals as goal

pub try_nodes-requires-clause-near : goal.try_nodes-requires-clause-near
try_nodes-requires-clause-near g c =
    let q = g.L.Lines.pass c.args.lines.now in
    let place = c.args.place in
    let few = g.met.L.Lines.few c.args.lines.now in
    let near = all_among (λ (w : Way). IsNear (suc place) w.last w.total) (active q place)
    (active_near q (g.met.L.Lines.amounts c.args.lines.now) (g.met.L.Lines.groups c.args.lines.now) place (omega arith)) in
    let at : All (λ (w : Way). IsNear (place + 1) w.last w.total) (active q place) = subst (λ k. All (λ (w : Way). IsNear k w.last w.total) (active q place)) (sym (add-one place)) near in
    let spelled : listed (ways_of c.as_slice-old.result.now) c.as_slice.result.now ≡ active q place =
    ap (λ (ms : List Made). listed (ways_of ms) c.as_slice.result.now) c.as_slice-old.ensures.value
    ∙ (ap (listed (ways_of c.args.self.now.nodes.items)) c.as_slice.ensures.value ∙ c.requires.active.spelled) in
    subst (All (λ (w : Way). IsNear (place + 1) w.last w.total)) (sym spelled) at

pub join-requires-clause-apart : goal.join-requires-clause-apart
join-requires-clause-apart g c =
    let q = g.L.Lines.pass c.args.lines.now in
    let place = c.args.place in
    let old = c.as_slice-old.result.now in
    let indices = c.as_slice.result.now in
    let living = c.try_nodes.new.living.items in
    let best = c.as_slice-2.result.now in
    let nodes = c.make_nodes.new.nodes.items in
    let s : Stepped q place old indices living best nodes = record {
      active = subst (λ (ms : List Made). AreActive q place ms indices) (sym c.as_slice-old.ensures.value) (subst (AreActive q place c.args.self.now.nodes.items) (sym c.as_slice.ensures.value) c.requires.active);
      lived = c.in_ok-try_nodes.ensures.living;
      named = c.in_ok-try_nodes.ensures.named;
      recorded = subst (λ (l : List Made). map (way_of (ways_of old)) l ≡ kept q (tried q (place + 1) true (listed (ways_of old) indices))) (sym c.as_slice-2.ensures.value) c.in_ok-try_nodes.ensures.best;
      found = subst (All (IsFound (place + 1) (length old))) (sym c.as_slice-2.ensures.value) c.in_ok-try_nodes.ensures.found;
      made = c.in_ok-make_nodes.ensures.made ∙ (ap (λ (l : List Made). l ++ filter (is_made c.slack.result best) best) (sym c.as_slice-old.ensures.value) ∙ ap (λ k. old ++ filter (is_made k best) best) c.slack.ensures);
    } in
    to_join q place old indices living best nodes s c.open_ended.result c.as_slice-3.result.now c.swap.new.x.items c.len-first.result
    c.open_ended.ensures c.as_slice-3.ensures.value (ap (λ v. v.items) c.swap.ensures.x_after) (c.len-first.ensures ∙ sym c.as_slice-old.ensures.len)

pub returns : goal.returns
returns g c =
    let q = g.L.Lines.pass c.args.lines.now in
    let place = c.args.place in
    let old = c.as_slice-old.result.now in
    let indices = c.as_slice.result.now in
    let living = c.try_nodes.new.living.items in
    let best = c.as_slice-2.result.now in
    let nodes = c.make_nodes.new.nodes.items in
    let s : Stepped q place old indices living best nodes = record {
      active = subst (λ (ms : List Made). AreActive q place ms indices) (sym c.as_slice-old.ensures.value) (subst (AreActive q place c.args.self.now.nodes.items) (sym c.as_slice.ensures.value) c.requires.active);
      lived = c.in_ok-try_nodes.ensures.living;
      named = c.in_ok-try_nodes.ensures.named;
      recorded = subst (λ (l : List Made). map (way_of (ways_of old)) l ≡ kept q (tried q (place + 1) true (listed (ways_of old) indices))) (sym c.as_slice-2.ensures.value) c.in_ok-try_nodes.ensures.best;
      found = subst (All (IsFound (place + 1) (length old))) (sym c.as_slice-2.ensures.value) c.in_ok-try_nodes.ensures.found;
      made = c.in_ok-make_nodes.ensures.made ∙ (ap (λ (l : List Made). l ++ filter (is_made c.slack.result best) best) (sym c.as_slice-old.ensures.value) ∙ ap (λ k. old ++ filter (is_made k best) best) c.slack.ensures);
    } in
    record {
      named = subst (λ (ms : List Made). All (λ i. i < length ms) c.join.new.active.items) c.as_slice-3.ensures.value c.in_ok-join.ensures.named;
      spelled = joined q place old indices living best nodes s c.as_slice-3.result.now c.swap.new.x.items c.join.new.active.items c.len-first.result
          c.as_slice-3.ensures.value (ap (λ v. v.items) c.swap.ensures.x_after) (c.len-first.ensures ∙ sym c.as_slice-old.ensures.len)
          (c.in_ok-join.ensures.put q (sym c.open_ended.ensures));
      few = c.in_ok-make_nodes.ensures.few;
    }
