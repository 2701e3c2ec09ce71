use Rattle.std.proofs.Common.{rules, arith, ◌≡◌, ◌∙◌, ap, sym}
use Rattle.table_races.proofs.CrewLemmas.{all_joined}
use Rattle.table_races.proofs.crew.race.Goals as goal

pub returns-clause-alone : goal.returns-clause-alone
returns-clause-alone g c =
    all_joined c.in_ok-seats.seats.items c.in_ok-raced.raced.items c.split_seats.new.first.view.joined c.join_seats.new.first.view.joined
    c.join_seats.new.first.view.made c.args.workers c.in_ok-seats.ensures.numbers
    (omega (arith, c.in_ok-raced.ensures.len, c.in_ok-raced.raced.ok, c.in_ok-seats.seats.ok))
    (λ k d e small. let gives = (c.in_ok-raced.ensures.each k d small).1 in gives.call.met.1.number ∙ sym (ap (λ s. s.view.number) (gives.job_is e)))
    c.in_ok-seats.ensures.joined c.join_seats.ensures.joined (c.join_seats.ensures.made ∙ c.in_ok-seats.ensures.made)
