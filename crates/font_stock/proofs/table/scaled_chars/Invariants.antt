use Rattle.font_stock.specs.Scaling.{AreScaled}
use Rattle.font_stock.proofs.table.scaled_chars.Given as goal

abbrev pub invariant-loop-code : goal.invariant-loop-code
invariant-loop-code l = AreScaled l.tfm l.codes l.expand l.z l.code l.chars.items
