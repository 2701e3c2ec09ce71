-- One item more is text, or isn't.
use Rattle.std.proofs.Common.{sym, ◌∙◌, arith}
use Rattle.hlist_hyph.proofs.LoopLemmas.{closed-on, closed-off, closed-end}
use Rattle.hlist_hyph.proofs.word.is_closed.Goals as goal

pub returns-then-not-is_text : goal.returns-then-not-is_text
returns-then-not-is_text c =
    c.ends_word.ensures
    ∙ sym (closed-off c.args.items.now c.loop-item.item-index c.item-item.result _ (omega arith) c.item-item.is
    (sym c.is_text.ensures ∙ c.if-not-is_text.true) c.loop-item.invariant)

pub loop-item-preserved : goal.loop-item-preserved
loop-item-preserved c =
    closed-on c.args.items.now c.loop-item.item-index c.item-item.result _ (omega arith) c.item-item.is
    (sym c.is_text.ensures ∙ c.if-not-is_text.false) c.loop-item.invariant

pub returns : goal.returns
returns c = sym (closed-end c.args.items.now c.loop-item.item-index _ (omega arith) c.loop-item.invariant)
