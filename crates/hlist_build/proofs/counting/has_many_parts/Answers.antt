-- The room that is left and what is ahead make up for what is behind.
use Rattle.std.proofs.Common.{arith, refl}
use Rattle.hlist_build.proofs.CountLemmas.{part_count-turn, part_count-end}
use Rattle.hlist_build.proofs.counting.has_many_parts.Goals as goal

pub returns-in-None : goal.returns-in-None
returns-in-None c =
    let turn = rw (← c.one-item.is) at (part_count-turn c.args.parts.now c.loop-one.one-index c.one-item.result (omega arith)) in
    (λ is. omega (arith, turn, c.in-None.ensures), λ many. refl)

pub loop-one-preserved : goal.loop-one-preserved
loop-one-preserved c =
    let turn = rw (← c.one-item.is) at (part_count-turn c.args.parts.now c.loop-one.one-index c.one-item.result (omega arith)) in
    omega (arith, turn, c.in-Some.ensures)

pub returns : goal.returns
returns c =
    let none = part_count-end c.args.parts.now c.loop-one.one-index (omega arith) in
    (λ is. absurd cc, λ many. absurd (omega (arith, none, many)))
