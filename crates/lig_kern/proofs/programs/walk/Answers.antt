-- Each turn looks at one word of the walk.
use Rattle.std.proofs.Common.{sym, ◌∙◌, arith}
use Rattle.tfm_read.specs.declared.ligature.LigWord.{LigWord}
use Rattle.lig_kern.proofs.WalkLemmas.{walk-past, walk-finds, walk-ends, walk-skips}
use Rattle.lig_kern.proofs.programs.walk.Goals as goal

-- what a read past the end would give
abbrev nowhere : LigWord
nowhere = record { skip = 0; «next» = 0; op = 0; rest = 0 }

pub returns-then-acts_before : goal.returns-then-acts_before
returns-then-acts_before c =
    sym (walk-finds c.args.code c.loop-place.place c.args.words.now nowhere c.loop-place-test.true
    (sym c.acts_before.ensures ∙ c.if-acts_before.true))
    ∙ c.loop-place.invariant

pub returns-then-word-ge128 : goal.returns-then-word-ge128
returns-then-word-ge128 c =
    sym (walk-ends c.args.code c.loop-place.place c.args.words.now nowhere c.loop-place-test.true
    (sym c.acts_before.ensures ∙ c.if-acts_before.false) c.if-word-ge128.true)
    ∙ c.loop-place.invariant

pub loop-place-preserved : goal.loop-place-preserved
loop-place-preserved c =
    walk-skips c.args.code c.loop-place.place _ c.args.words.now nowhere c.loop-place-test.true
    (sym c.acts_before.ensures ∙ c.if-acts_before.false) c.if-word-ge128.false (omega arith)
    ∙ c.loop-place.invariant

pub returns : goal.returns
returns c = sym (walk-past c.args.code c.loop-place.place c.args.words.now c.loop-place-test.false) ∙ c.loop-place.invariant
