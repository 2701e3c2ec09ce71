-- One item more is passed, or isn't.
use Rattle.std.proofs.Common.{sym, ◌∙◌, arith}
use Rattle.hlist_hyph.proofs.LoopLemmas.{passed-on, passed-off, passed-end}
use Rattle.hlist_hyph.proofs.word.passed.Goals as goal

pub returns-then-not-is_passed-clause-exact : goal.returns-then-not-is_passed-clause-exact
returns-then-not-is_passed-clause-exact c =
    let rest = passed-off c.args.tables.now c.args.items.now c.loop-item.item-index c.item-item.result (omega arith) c.item-item.is
    (sym c.is_passed.ensures ∙ c.if-not-is_passed.true) in
    let so_far = c.loop-item.invariant.0 in
    omega (arith, so_far, rest)

pub loop-item-preserved : goal.loop-item-preserved
loop-item-preserved c =
    let rest = passed-on c.args.tables.now c.args.items.now c.loop-item.item-index c.item-item.result (omega arith) c.item-item.is
    (sym c.is_passed.ensures ∙ c.if-not-is_passed.false) in
    let so_far = c.loop-item.invariant.0 in
    let same = c.loop-item.invariant.1 in
    (omega (arith, so_far, rest), omega (arith, same))

pub returns-clause-exact : goal.returns-clause-exact
returns-clause-exact c =
    let rest = passed-end c.args.tables.now c.args.items.now c.loop-item.item-index (omega arith) in
    let so_far = c.loop-item.invariant.0 in
    omega (arith, so_far, rest)
