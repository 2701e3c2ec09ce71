-- One item more belongs to the word, or doesn't.
use Rattle.std.proofs.Common.{sym, ◌∙◌, arith}
use Rattle.hlist_hyph.proofs.LoopLemmas.{length-on, length-off, length-end}
use Rattle.hlist_hyph.proofs.word.word_length.Goals as goal

pub returns-then-not-joins-clause-exact : goal.returns-then-not-joins-clause-exact
returns-then-not-joins-clause-exact c =
    let rest = length-off c.args.tables.now c.args.number c.loop-item.room c.args.items.now c.loop-item.item-index c.item-item.result
    (omega arith) c.item-item.is (sym c.joins.ensures ∙ c.if-not-joins.true) in
    let so_far = c.loop-item.invariant.0 in
    omega (arith, so_far, rest)

pub loop-item-preserved : goal.loop-item-preserved
loop-item-preserved c =
    let rest = rw (sym c.letter_count-room.ensures) at (length-on c.args.tables.now c.args.number c.loop-item.room c.args.items.now c.loop-item.item-index c.item-item.result
    (omega arith) c.item-item.is (sym c.joins.ensures ∙ c.if-not-joins.false)) in
    let so_far = c.loop-item.invariant.0 in
    let same = c.loop-item.invariant.1 in
    (omega (arith, so_far, rest), omega (arith, same))

pub returns-clause-exact : goal.returns-clause-exact
returns-clause-exact c =
    let rest = length-end c.args.tables.now c.args.number c.loop-item.room c.args.items.now c.loop-item.item-index (omega arith) in
    let so_far = c.loop-item.invariant.0 in
    omega (arith, so_far, rest)
