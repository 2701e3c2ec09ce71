use Rattle.std.proofs.Common.{◌≡◌, ◌∙◌, ap}
use Rattle.table_races.proofs.CrewLemmas.{pair_joined}
use Rattle.table_races.proofs.pair.join_and_close.Goals as goal

pub close-requires-clause-alone : goal.close-requires-clause-alone
close-requires-clause-alone c =
    pair_joined c.args.first.view.joined c.join.new.seat.view.joined c.join.new.seat.view.made c.args.second.view.number
    (ap (λ v. v.joined) c.join.ensures.view) c.requires.second_number (ap (λ v. v.made) c.join.ensures.view ∙ c.requires.made)
