use Rattle.std.proofs.Common.{arith, pos, neg_ℤ, ◌≤ℤ◌}
use Rattle.std.proofs.lemmas.Int.{ints}
use Rattle.micro_num.proofs.Expansions.{expanded-fits}
use Rattle.font_stock.specs.Fonts.{char_of}
use Rattle.font_stock.proofs.Characters.{char_of-sized, char_of-fits}
use Rattle.font_stock.proofs.font.Font.widths_are_fix_words.Goals as goal

pub returns-clause-own : goal.returns-clause-own
returns-clause-own c = λ code below. (char_of-sized c.args.self.now.tfm code below).width

pub returns-clause-expanded : goal.returns-clause-expanded
returns-clause-expanded c = λ code step below e is instance.
    let font = c.args.self.now in
    let least : neg_ℤ (pos 1000) ≤ℤ step = omega (arith, ints, instance.low, e.limits.shrink_fits) in
    expanded-fits (char_of font.tfm code).width step (pos e.stretch) least instance.high
    (char_of-fits font.tfm font.expand code font.widths_fit below e is)
