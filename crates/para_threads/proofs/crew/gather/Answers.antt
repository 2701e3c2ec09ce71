use Rattle.std.proofs.Common.{◌≡◌, ◌∷◌, ◌∙◌, ap, sym, subst, arith, length, List, inr}
use Rattle.std.specs.Prelude.{All}
use Rattle.std.specs.Vec.Iter.{into_iter_items}
use Rattle.std.proofs.lemmas.List.Elements.{All-head, All-rest}
use Rattle.instance_core.specs.declared.font.BaseFont.{BaseFont}
use Rattle.instance_table.specs.declared.view.View.{View}
use Rattle.instance_table.specs.Steps.{new_view}
use Rattle.para_threads.specs.Crews.{IsWork}
use Rattle.para_threads.specs.Gathering.{Gathered}
use Rattle.para_threads.specs.Slots.{Slot}
use Rattle.para_threads.specs.Working.{HasWorked}
use Rattle.para_threads.proofs.CrewNumbers.{one_joined}
use Rattle.para_threads.proofs.Gathering.{all-inside, gathered-more, joined-past, worked-of}
use Rattle.para_threads.proofs.crew.gather.Goals as goal

pub fill-requires : goal.fill-requires
fill-requires c k d small =
    let table = c.args.table.now in
    let job = c.args._job.now in
    let stock = c.args._stock.now in
    let inv = c.loop-one.invariant in
    let one = c.in-Some.one in
    let rest = into_iter_items c.next.new.self in
    let works : All (IsWork table job stock) (one ∷ rest) = subst (All (IsWork table job stock)) c.in-Some.ensures.steps.0 inv.works in
    let worked = worked-of table job stock one c.in_ok-done.field-0 (All-head (IsWork table job stock) one rest works) c.in_ok-done.was in
    let inside = all-inside job stock c.loop-one.slots.items c.in_ok-done.field-0.items (omega (arith, inv.slots, c.loop-one.slots.ok)) worked.each k d small in
    omega (arith, inside, c.loop-one.slots.ok)

pub loop-one-preserved : goal.loop-one-preserved
loop-one-preserved c =
    let table = c.args.table.now in
    let job = c.args._job.now in
    let stock = c.args._stock.now in
    let inv = c.loop-one.invariant in
    let one = c.in-Some.one in
    let rest = into_iter_items c.next.new.self in
    let v = c.loop-one.first.view in
    let w = one.seat.view in
    let done = c.in_ok-done.field-0 in
    let steps : into_iter_items c.loop-one.one-iterator ≡ one ∷ rest = c.in-Some.ensures.steps.0 in
    let works : All (IsWork table job stock) (one ∷ rest) = subst (All (IsWork table job stock)) steps inv.works in
    let view = c.join.ensures.view in
    let own = worked-of table job stock one done (All-head (IsWork table job stock) one rest works) c.in_ok-done.was in
    let worked : HasWorked job stock (new_view v.bases table.draws w.number) w done.items =
    subst (λ (fonts : List BaseFont). HasWorked job stock (new_view fonts table.draws w.number) w done.items) (sym inv.idle.0.1) own in
    let count : length c.loop-one.slots.items ≡ length job.pars = omega (arith, inv.slots, c.loop-one.slots.ok) in
    let more = gathered-more job stock v w c.join.new.seat.view c.loop-one.slots.items table.draws w.number done.items count inv.gathered worked c.join.ensures.carried view in
    record {
      idle = (c.join.ensures.own, ap (λ (x : View). x.building) view ∙ inv.idle.1);
      number = ap (λ (x : View). x.number) view ∙ inv.number;
      made = ap (λ (x : View). x.made) view ∙ inv.made;
      works = All-rest (IsWork table job stock) one rest (into_iter_items c.loop-one.one-iterator) steps inv.works;
      rest = one_joined v.joined c.join.new.seat.view.joined one rest (into_iter_items c.loop-one.one-iterator) _ (ap (λ (x : View). x.joined) view) steps inv.rest;
      gathered = subst (λ (slots : List Slot). Gathered job stock c.join.new.seat.view slots) (sym c.fill.ensures.filled) more;
      slots = c.fill.ensures.length ∙ inv.slots;
      past = inr (joined-past job stock v w c.join.new.seat.view table.draws w.number done.items worked view);
      count = omega (arith, inv.count, c.in-Some.ensures.steps.1, ap length steps);
    }
