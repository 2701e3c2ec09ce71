-- Each turn meets one code, and the right boundary comes last.
use Rattle.std.proofs.Common.{◌≡◌, length, sym, ◌∙◌, refl, arith, below_more, false}
use Rattle.std.specs.Prelude.{None}
use Rattle.lig_kern.specs.Plain.{is_quiet}
use Rattle.lig_kern.specs.Running.{AllExist, start_of}
use Rattle.lig_kern.proofs.PlainLemmas.{left-quiet, quiet-acts, quiet-on, quiet-end, plain-or_not, plain-outcome}
use Rattle.lig_kern.proofs.plain.is_plain.Goals as goal

pub loop-code-init : goal.loop-code-init
loop-code-init c =
    let tfm = c.args.tfm.now in
    record {
      exist = λ k below. absurd (omega arith);
      quiet = rw c.left_program-program.ensures (sym (left-quiet tfm c.args.left tfm.left _ refl));
    }

pub returns-then-program_acts-clause-meaning : goal.returns-then-program_acts-clause-meaning
returns-then-program_acts-clause-meaning c =
    let tfm = c.args.tfm.now in
    plain-or_not tfm c.args.codes.now c.args.left c.args.right false
    (c.loop-code.invariant.quiet ∙ quiet-acts tfm c.loop-code.program c.args.codes.now _ c.loop-code.code-index c.loop-code-test.true
    (sym c.program_acts.ensures ∙ c.if-program_acts.true))
    (λ yes. cc)

pub loop-code-preserved : goal.loop-code-preserved
loop-code-preserved c =
    let tfm = c.args.tfm.now in
    record {
      exist = below_more _ _ c.loop-code.invariant.exist (sym c.exists.ensures ∙ c.if-not-exists.false);
      quiet = rw c.character_program-program.ensures
          (c.loop-code.invariant.quiet ∙ quiet-on tfm c.loop-code.program c.args.codes.now _ c.loop-code.code-index c.loop-code-test.true
          (sym c.program_acts.ensures ∙ c.if-program_acts.false));
    }

-- what the test came to is the quiet of the whole
quiet-whole : (c : goal.After-is_quiet_at_end)
    → is_quiet c.args.tfm.now None (start_of c.args.tfm.now c.args.codes.now c.args.left c.args.right) ≡ c.is_quiet_at_end.result
quiet-whole c =
    let tfm = c.args.tfm.now in
    c.loop-code.invariant.quiet
    ∙ quiet-end tfm c.loop-code.program c.args.codes.now _ c.loop-code.code-index c.loop-code-test.false
    ∙ sym (c.is_quiet_at_end.ensures (length c.args.codes.now))

all-exist : (c : goal.After-is_quiet_at_end) → AllExist c.args.tfm.now.chars c.args.codes.now
all-exist c = λ k below. let past = c.loop-code-test.false in c.loop-code.invariant.exist k (omega (arith, below, past))

pub returns-clause-meaning : goal.returns-clause-meaning
returns-clause-meaning c =
    plain-or_not c.args.tfm.now c.args.codes.now c.args.left c.args.right c.is_quiet_at_end.result
    (quiet-whole c) (λ yes. all-exist c)

pub returns-clause-glyphs : goal.returns-clause-glyphs
returns-clause-glyphs c = λ yes.
    plain-outcome c.args.tfm.now c.args.codes.now c.args.left c.args.right
    (record { exist = all-exist c; quiet = quiet-whole c ∙ yes })
