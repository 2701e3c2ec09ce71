use Rattle.std.proofs.Common.{◌≡◌, ℕ, ◌+◌, ◌-◌, ap, length, arith}
use Rattle.liang_hyph.specs.Greatest.{greatest_below}
use Rattle.liang_hyph.specs.Table.{value_of_part}
use Rattle.liang_hyph.proofs.GreatestLemmas.{greatest_below-more, greatest_below-silent}
use Rattle.liang_hyph.proofs.table.Patterns.raise_parts.Goals as goal

pub loop-count-preserved : goal.loop-count-preserved
loop-count-preserved c = λ h l.
    omega (arith, c.raise_part.ensures h l, c.loop-count.invariant h l, greatest_below-more (λ count. value_of_part c.args.self.now c.args.word.now c.args.at count h) c.loop-count.count)

pub returns : goal.returns
returns c = λ h l.
    let value : ℕ → ℕ = λ count. value_of_part c.args.self.now c.args.word.now c.args.at count h in
    let done : c.loop-count.count ≡ c.min-most.result + 1 = omega arith in
    let reached : greatest_below value c.loop-count.count ≡ greatest_below value (c.min-most.result + 1) = ap (greatest_below value) done in
    let silent = greatest_below-silent value (c.min-most.result + 1) (length c.args.word.now - c.args.at + 1) (omega arith)
    (λ count a b. rw (← c.self.view_is) (c.self.invariant c.args.word.now c.args.at count h (omega arith) (omega arith))) in
    omega (arith, c.loop-count.invariant h l)
