use Rattle.std.proofs.Common.{rules, FitsSigned}
use Rattle.std.specs.Int.{w32}
use Rattle.std.proofs.lemmas.Int.{to_z-of_z}
use Rattle.std.proofs.lemmas.Result.{err_from_is_err_and}
use Rattle.tfm_read.specs.Checks.{fix_check}
use Rattle.tfm_read.proofs.Answering.{answers_found}
use Rattle.tfm_read.proofs.Loops.{kerns_none, kerns_more}
use Rattle.tfm_read.proofs.sizes.read_kerns.Goals as goal

pub loop-i-init : goal.loop-i-init
loop-i-init c = rw c.new-kerns.ensures (kerns_none c.args.bytes.now c.args.place)

pub returns-in_err-size : goal.returns-in_err-size
returns-in_err-size c =
    let p = err_from_is_err_and c.from_residual.result c.from_residual.ensures.1 in
    rw (p.1, p.2)
    (answers_found _ _ (fix_check c.args.bytes.now c.args.place) c.loop-i.i c.args.count c.in_err-size.field-0.0 c.loop-i-test.true c.loop-i.invariant.sound c.in_err-size.ensures)

pub loop-i-preserved : goal.loop-i-preserved
loop-i-preserved c =
    let fits : FitsSigned w32 c.in_ok-size.size = search rules in
    let back = to_z-of_z w32 c.in_ok-size.size fits in
    rw (c.in_ok-push.ensures.ok, back) (kerns_more c.args.bytes.now c.args.place c.loop-i.i c.loop-i.kerns c.in_ok-size.size c.loop-i.invariant c.in_ok-size.ensures.0 c.in_ok-size.ensures.1)
