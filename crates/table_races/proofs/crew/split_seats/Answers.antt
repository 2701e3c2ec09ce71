use Rattle.std.proofs.Common.{rules, ◌≡◌, ◌+◌, ◌∙◌, ap, sym, All}
use Rattle.instance_table.specs.Seats.{Sitting}
use Rattle.table_races.specs.Crews.{IsFresh, numbers, numbers_upto}
use Rattle.table_races.proofs.CrewLemmas.{more_seats, more_numbers}
use Rattle.table_races.proofs.crew.split_seats.Goals as goal

pub loop-preserved : goal.loop-preserved
loop-preserved c =
    let view = c.in_ok-split.ensures.view in
    let new = c.in_ok-split.ensures.new in record {
      idle = (c.in_ok-split.ensures.own, ap (λ v. v.building) view ∙ c.loop.invariant.idle.1);
      number = ap (λ v. v.number) view ∙ c.loop.invariant.number;
      made = ap (λ v. v.made) view ∙ ap (λ k. k + 1) c.loop.invariant.made;
      joined = ap (λ v. v.joined) view ∙ c.loop.invariant.joined;
      seats = more_seats c.args.table.now c.loop.seats.items c.push.new.self.items c.in_ok-split.field-0 c.in_ok-push.ensures.items
          c.loop.invariant.seats ((new.0, ap (λ v. v.building) new.1), ap (λ v. v.ended) new.1);
      numbers = more_numbers c.loop.seats.items c.push.new.self.items c.in_ok-split.field-0 c.loop.counter c.in_ok-push.ensures.items
          c.loop.invariant.numbers (ap (λ v. v.number) new.1 ∙ c.loop.invariant.made);
    }
