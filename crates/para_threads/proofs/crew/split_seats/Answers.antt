use Rattle.std.proofs.Common.{◌≡◌, ◌∙◌, ap, sym}
use Rattle.std.proofs.lemmas.List.Elements.{All-push}
use Rattle.instance_table.specs.declared.view.View.{View}
use Rattle.instance_table.specs.Steps.{after_split, new_view}
use Rattle.para_threads.specs.Crews.{IsNew}
use Rattle.para_threads.proofs.CrewNumbers.{more_numbers}
use Rattle.para_threads.proofs.crew.split_seats.Goals as goal

pub loop-preserved : goal.loop-preserved
loop-preserved c =
    let inv = c.loop.invariant in
    let old = c.loop.first.view in
    let view = c.in_ok-split.ensures.view in
    let new = c.in_ok-split.ensures.new in
    let seat = c.in_ok-split.field-0 in
    let fresh : seat.view ≡ new_view c.args.table.now.bases c.args.table.now.draws seat.view.number =
    new.1 ∙ (λ i. new_view (ap (λ (v : View). v.bases) inv.view i) (ap (λ (v : View). v.draws) inv.view i) old.made)
    ∙ ap (new_view c.args.table.now.bases c.args.table.now.draws) (sym (ap (λ (v : View). v.number) new.1)) in
    record {
      idle = (c.in_ok-split.ensures.own, ap (λ (v : View). v.building) view ∙ inv.idle.1);
      view = view ∙ ap after_split inv.view;
      seats = rw c.in_ok-push.ensures.items (All-push (IsNew c.args.table.now) c.loop.seats.items seat inv.seats (new.0, fresh));
      numbers = more_numbers c.loop.seats.items c.push.new.self.items seat c.loop.counter c.in_ok-push.ensures.items inv.numbers
          (ap (λ (v : View). v.number) new.1 ∙ ap (λ (v : View). v.made) inv.view);
    }
