use Rattle.std.proofs.lemmas.Iterator.Adapters.{position_from-zero}
use Rattle.font_stock.proofs.widths.first_wide_kern.Goals as goal

pub loop-index-init : goal.loop-index-init
loop-index-init c = position_from-zero _ c.args.kerns.now
