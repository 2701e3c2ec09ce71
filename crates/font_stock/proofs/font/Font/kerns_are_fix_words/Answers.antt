use Rattle.std.proofs.Common.{arith, pos, neg_ℤ, ◌≤ℤ◌}
use Rattle.std.proofs.lemmas.Int.{ints}
use Rattle.micro_num.proofs.Expansions.{expanded-fits}
use Rattle.font_stock.proofs.Characters.{kern-fits}
use Rattle.font_stock.proofs.font.Font.kerns_are_fix_words.Goals as goal

pub returns-clause-expanded : goal.returns-clause-expanded
returns-clause-expanded c = λ fix step here e is instance.
    let font = c.args.self.now in
    let least : neg_ℤ (pos 1000) ≤ℤ step = omega (arith, ints, instance.low, e.limits.shrink_fits) in
    expanded-fits fix step (pos e.stretch) least instance.high
    (kern-fits font.expand font.tfm.kerns fix font.kerns_fit (λ _ _. here) e is)
