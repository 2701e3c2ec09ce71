use Rattle.std.proofs.lemmas.Iterator.Adapters.{position_from-zero}
use Rattle.font_stock.proofs.widths.first_too_wide.Goals as goal

pub loop-code-init : goal.loop-code-init
loop-code-init c = position_from-zero _ c.args.chars.now
