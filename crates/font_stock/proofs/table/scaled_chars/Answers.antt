use Rattle.std.proofs.Common.{arith, ◌∙◌, ap}
use Rattle.font_stock.specs.Scaling.{scaled_char}
use Rattle.font_stock.proofs.Characters.{char_of-sized, char_of-fits, AreScaled-push}
use Rattle.font_stock.proofs.table.scaled_chars.Goals as goal

pub scaled-requires-clause-width : goal.scaled-requires-clause-width
scaled-requires-clause-width c = rw c.char_info.ensures (char_of-sized c.args.tfm.now c.loop-code.code (omega arith)).width

pub scaled-requires-clause-height : goal.scaled-requires-clause-height
scaled-requires-clause-height c = rw c.char_info.ensures (char_of-sized c.args.tfm.now c.loop-code.code (omega arith)).height

pub scaled-requires-clause-depth : goal.scaled-requires-clause-depth
scaled-requires-clause-depth c = rw c.char_info.ensures (char_of-sized c.args.tfm.now c.loop-code.code (omega arith)).depth

pub scaled-requires-clause-expanded : goal.scaled-requires-clause-expanded
scaled-requires-clause-expanded c = rw c.char_info.ensures (char_of-fits c.args.tfm.now c.args.expand c.loop-code.code c.requires.widths (omega arith))

pub loop-code-preserved : goal.loop-code-preserved
loop-code-preserved c =
    let pushed = c.in_ok-push.ensures.items in
    rw pushed (AreScaled-push _ _ _ _ _ _ _ c.loop-code.invariant
    (c.scaled.ensures ∙ ap (scaled_char c.args.expand _ _) c.char_info.ensures))
