use Rattle.std.proofs.Common.{arith}
use Rattle.std.proofs.lemmas.Result.{err_from_is_err_and}
use Rattle.tfm_read.specs.Checks.{lig_check}
use Rattle.tfm_read.proofs.Answering.{answers_found}
use Rattle.tfm_read.proofs.Loops.{ligs_none, ligs_more, ligs_all}
use Rattle.tfm_read.proofs.programs.read_programs.Goals as goal

pub loop-i-init : goal.loop-i-init
loop-i-init c = rw c.new-ligs.ensures (ligs_none c.args.bytes.now c.args.chars.now c.right_at-right.result c.args.kerns c.args.count c.args.place)

pub returns-in_err-word : goal.returns-in_err-word
returns-in_err-word c =
    let p = err_from_is_err_and c.from_residual.result c.from_residual.ensures.1 in
    rw (p.1, p.2, ← c.right_at-right.ensures)
    (answers_found _ _ (lig_check c.args.bytes.now c.args.chars.now c.right_at-right.result c.args.kerns c.args.count c.args.place) c.loop-i.i c.args.count c.in_err-word.field-0.0 c.loop-i-test.true c.loop-i.invariant.sound c.in_err-word.ensures)

pub loop-i-preserved : goal.loop-i-preserved
loop-i-preserved c =
    rw c.in_ok-push.ensures.ok
    (ligs_more c.args.bytes.now c.args.chars.now c.right_at-right.result c.args.kerns c.args.count c.args.place c.loop-i.i c.loop-i.ligs c.in_ok-word.word c.loop-i.invariant c.in_ok-word.ensures.0 c.in_ok-word.ensures.1)

pub returns : goal.returns
returns c =
    ligs_all c.args.bytes.now c.args.chars.now c.right_at-right.result c.args.kerns c.args.count c.args.place c.loop-i.i c.loop-i.ligs (omega arith) (omega arith) c.right_at-right.ensures c.loop-i.invariant
