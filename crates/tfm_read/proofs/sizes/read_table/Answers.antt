use Rattle.std.proofs.Common.{rules, FitsSigned}
use Rattle.std.specs.Int.{w32}
use Rattle.std.proofs.lemmas.Int.{to_z-of_z}
use Rattle.std.proofs.lemmas.Result.{err_from_is_err_and}
use Rattle.tfm_read.specs.Checks.{table_check}
use Rattle.tfm_read.proofs.Answering.{answers_found}
use Rattle.tfm_read.proofs.Loops.{table_none, table_in, table_past}
use Rattle.tfm_read.proofs.sizes.read_table.Goals as goal
use Rattle.tfm_read.proofs.sizes.read_table.Goals.{then-i-table, else-i-table}

pub loop-i-init : goal.loop-i-init
loop-i-init c = table_none c.args.bytes.now c.args.place c.args.table.now

pub returns-in_err-size : goal.returns-in_err-size
returns-in_err-size c =
    let p = err_from_is_err_and c.from_residual.result c.from_residual.ensures.1 in
    rw (p.1, p.2)
    (answers_found _ _ (table_check c.args.bytes.now c.args.place) c.loop-i.i c.args.count c.in_err-size.field-0.0 c.loop-i-test.true c.loop-i.invariant.sound c.in_err-size.ensures)

pub loop-i-preserved : goal.loop-i-preserved
loop-i-preserved c =
    let fits : FitsSigned w32 c.in_ok-size.size = search rules in
    let back = to_z-of_z w32 c.in_ok-size.size fits in
    elim c.if-i-table.branch [
      | then-i-table w ↦ rw (w.table-is, back) (table_in c.args.bytes.now c.args.place c.loop-i.i c.loop-i.table c.in_ok-size.size w.if-i-table.true c.loop-i.invariant c.in_ok-size.ensures.0 c.in_ok-size.ensures.1)
      | else-i-table w ↦ rw w.table-is (table_past c.args.bytes.now c.args.place c.loop-i.i c.loop-i.table w.if-i-table.false c.loop-i.invariant c.in_ok-size.ensures.0)
    ]
