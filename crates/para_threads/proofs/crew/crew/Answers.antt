use Rattle.std.proofs.Common.{arith, ◌≡◌, ◌+◌, ◌∙◌, ap, sym, []}
use Rattle.instance_table.specs.declared.view.View.{View}
use Rattle.instance_table.specs.Seats.{Sitting}
use Rattle.para_threads.proofs.CrewNumbers.{all_joined}
use Rattle.para_threads.proofs.Gathering.{gathered-none}
use Rattle.para_threads.proofs.crew.crew.Goals as goal

pub gather-requires-clause-gathered : goal.gather-requires-clause-gathered
gather-requires-clause-gathered g c =
    let first : View = c.split_seats.new.first.view in
    let view = c.in_ok-seats.ensures.view in
    let drawn : first.drawn ≡ [] = ap (λ (v : View). v.drawn) view in
    let seen : first.seen ≡ [] = ap (λ (v : View). v.seen) view in
    let claims : first.claims ≡ [] = ap (λ (v : View). v.claims) view in
    gathered-none c.args.job.now c.args.stock.now first c.in_ok-slots.slots.items drawn seen claims

pub returns-clause-alone : goal.returns-clause-alone
returns-clause-alone g c =
    let view = c.in_ok-seats.ensures.view in
    let joined : c.split_seats.new.first.view.joined ≡ [] = ap (λ (v : View). v.joined) view in
    let made : c.split_seats.new.first.view.made ≡ c.args.workers + 1 = ap (λ (v : View). v.made) view in
    all_joined c.in_ok-seats.seats.items c.in_ok-works.works.items c.split_seats.new.first.view.joined c.gather.new.first.view.joined
    c.gather.new.first.view.made c.args.workers c.in_ok-seats.ensures.numbers
    (omega (arith, c.in_ok-works.ensures.len, c.in_ok-works.works.ok, c.in_ok-seats.seats.ok))
    (λ k d e small. let gives = (c.in_ok-works.ensures.each k d small).1 in gives.call.met.1 ∙ sym (ap (λ (s : Sitting). s.view.number) (gives.job_is e)))
    joined c.in_ok-gather.ensures.joined (c.in_ok-gather.ensures.made ∙ made)
