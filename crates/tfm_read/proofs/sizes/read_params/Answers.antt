use Rattle.std.proofs.Common.{rules, refl, arith, FitsSigned}
use Rattle.std.specs.Int.{w32}
use Rattle.std.proofs.lemmas.Int.{to_z-of_z}
use Rattle.std.proofs.lemmas.Result.{err_from_is_err_and}
use Rattle.tfm_read.specs.Checks.{param_check}
use Rattle.tfm_read.proofs.Answering.{answers_found}
use Rattle.tfm_read.proofs.Loops.{params_none, params_in, params_past, params_all, seven_zeros}
use Rattle.tfm_read.proofs.sizes.read_params.Goals as goal
use Rattle.tfm_read.proofs.sizes.read_params.Goals.{then-i-lt7, else-i-lt7}

pub loop-i-init : goal.loop-i-init
loop-i-init c = params_none c.args.bytes.now c.args.place _ refl seven_zeros

pub returns-in_err-size : goal.returns-in_err-size
returns-in_err-size c =
    let p = err_from_is_err_and c.from_residual.result c.from_residual.ensures.1 in
    rw (p.1, p.2)
    (answers_found _ _ (param_check c.args.bytes.now c.args.place) c.loop-i.i c.args.count c.in_err-size.field-0.0 c.loop-i-test.true c.loop-i.invariant.sound c.in_err-size.ensures)

pub loop-i-preserved : goal.loop-i-preserved
loop-i-preserved c =
    let fits : FitsSigned w32 c.in_ok-size.size = search rules in
    let back = to_z-of_z w32 c.in_ok-size.size fits in
    elim c.if-i-lt7.branch [
      | then-i-lt7 w ↦ rw (w.params-is, back) (params_in c.args.bytes.now c.args.place c.loop-i.i c.loop-i.params c.in_ok-size.size w.if-i-lt7.true c.loop-i.invariant c.in_ok-size.ensures.0 c.in_ok-size.ensures.1)
      | else-i-lt7 w ↦ rw w.params-is (params_past c.args.bytes.now c.args.place c.loop-i.i c.loop-i.params w.if-i-lt7.false c.loop-i.invariant c.in_ok-size.ensures.0)
    ]

pub returns : goal.returns
returns c = params_all c.args.bytes.now c.args.place c.args.count c.loop-i.i c.loop-i.params (omega arith) (omega arith) c.loop-i.invariant
