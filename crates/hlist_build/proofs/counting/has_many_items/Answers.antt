-- The room that is left and what is ahead make up for what is behind.
use Rattle.std.proofs.Common.{arith, refl}
use Rattle.hlist_build.proofs.CountLemmas.{item_count-turn, item_count-end}
use Rattle.hlist_build.proofs.counting.has_many_items.Goals as goal

pub returns-in-None : goal.returns-in-None
returns-in-None c =
    let turn = rw (← c.item-item.is) at (item_count-turn c.args.items.now c.loop-item.item-index c.item-item.result (omega arith)) in
    (λ is. omega (arith, turn, c.in-None.ensures), λ many. refl)

pub loop-item-preserved : goal.loop-item-preserved
loop-item-preserved c =
    let turn = rw (← c.item-item.is) at (item_count-turn c.args.items.now c.loop-item.item-index c.item-item.result (omega arith)) in
    omega (arith, turn, c.in-Some.ensures)

pub returns : goal.returns
returns c =
    let none = item_count-end c.args.items.now c.loop-item.item-index (omega arith) in
    (λ is. absurd cc, λ many. absurd (omega (arith, none, many)))
