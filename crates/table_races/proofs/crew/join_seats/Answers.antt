use Rattle.std.proofs.Common.{rules, arith, ◌≡◌, ◌∷◌, ◌∙◌, ap, sym, length}
use Rattle.std.proofs.lemmas.List.Elements.{All-rest}
use Rattle.std.specs.Vec.Iter.{into_iter_items}
use Rattle.table_races.specs.Crews.{IsIdle}
use Rattle.table_races.proofs.CrewLemmas.{one_joined}
use Rattle.table_races.specs.declared.crew.Raced.{Raced}
use Rattle.table_races.proofs.crew.join_seats.Goals as goal

pub loop-one-preserved : goal.loop-one-preserved
loop-one-preserved c =
    let steps : into_iter_items c.loop-one.one-iterator ≡ c.in-Some.one ∷ into_iter_items c.next.new.self = c.in-Some.ensures.steps.0 in
    let view = c.join.ensures.view in record {
      idle = (c.join.ensures.own, ap (λ v. v.building) view ∙ c.loop-one.invariant.idle.1);
      number = ap (λ v. v.number) view ∙ c.loop-one.invariant.number;
      made = ap (λ v. v.made) view ∙ c.loop-one.invariant.made;
      others = All-rest (λ (r : Raced). IsIdle c.args.table.now r.seat) c.in-Some.one (into_iter_items c.next.new.self) (into_iter_items c.loop-one.one-iterator) steps
          c.loop-one.invariant.others;
      rest = one_joined c.loop-one.first.view.joined c.join.new.seat.view.joined c.in-Some.one (into_iter_items c.next.new.self) (into_iter_items c.loop-one.one-iterator) _
          (ap (λ v. v.joined) view) steps c.loop-one.invariant.rest;
      count = omega (arith, c.loop-one.invariant.count, c.in-Some.ensures.steps.1, ap length steps);
    }
