use Rattle.std.proofs.Common.{◌≤◌, length, take, ap, sym, arith}
use Rattle.std.proofs.lemmas.List.{take_all}
use Rattle.std.proofs.lemmas.List.Elements.{All-more, All-weaker, All-same}
use Rattle.liang_hyph.proofs.merge.longest.Goals as goal

pub loop-pattern-preserved : goal.loop-pattern-preserved
loop-pattern-preserved c =
    let xs = c.args.patterns.now in
    let i = c.loop-pattern.pattern-index in
    let item = ap (λ p. length p.letters) c.pattern-item.is in
    All-more (λ p. length p.letters ≤ c.max-longest.result) xs i c.pattern-item.result (omega arith)
    (All-weaker (λ p. length p.letters ≤ c.loop-pattern.longest) (λ p. length p.letters ≤ c.max-longest.result) (λ p h. omega arith) (take i xs) c.loop-pattern.invariant)
    (omega arith)

pub returns : goal.returns
returns c =
    let xs = c.args.patterns.now in
    All-same (λ p. length p.letters ≤ c.loop-pattern.longest) xs (take c.loop-pattern.pattern-index xs) (sym (take_all c.loop-pattern.pattern-index xs (omega arith))) c.loop-pattern.invariant
