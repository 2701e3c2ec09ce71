use Rattle.std.proofs.Common.{rules, arith, ◌≡◌, ◌<◌, ℕ, ap, sym, ◌∙◌, ◌∷◌, ◌++◌, [], length}
use Rattle.instance_core.specs.declared.page.Owner.{Owner}
use Rattle.instance_table.proofs.CloseLemmas.{listed-some, listed-none}
use Rattle.instance_table.proofs.SatLemmas.{count_is}
use Rattle.instance_table.specs.Closing.{owners_of, named_below}
use Rattle.instance_table.proofs.closing.list_owners.Goals as goal
use Rattle.instance_table.proofs.closing.list_owners.Goals.{in-Some, in_default}

pub bounds : goal.bounds
bounds c =
    let count = count_is c.args.bases.now c.cell_count-cell-end.result c.cell_count-cell-end.ensures.exact in
    omega (arith, count, c.requires.cells, c.loop-cell-test.true)

pub loop-cell-preserved : goal.loop-cell-preserved
loop-cell-preserved c = elim c.match-builders-cell.branch [
  | in-Some w ↦ record {
    listed = ap (λ v. v.items) w.owners-is
        ∙ (w.push_reserved.ensures.items
        ∙ (ap (λ os. os ++ (record { cell = w.cell_of-cell.result; worker = w.in-Some.worker }) ∷ []) c.loop-cell.invariant.listed
        ∙ listed-some c.args.bases.now c.args.builders.now c.loop-cell.cell w.cell_of-cell.result w.in-Some.worker w.cell_of-cell.ensures.exact w.in-Some.is));
    room = search rules;
    few = search rules;
  }
  | in_default w ↦ record {
    listed = ap (λ v. v.items) w.owners-is
        ∙ (c.loop-cell.invariant.listed ∙ listed-none c.args.bases.now c.args.builders.now c.loop-cell.cell w.in_default.is);
    room = search rules;
    few = search rules;
  }
]

pub returns : goal.returns
returns c =
    let count = count_is c.args.bases.now c.cell_count-cell-end.result c.cell_count-cell-end.ensures.exact in
    let all : c.loop-cell.cell ≡ length c.args.builders.now = omega (arith, count, c.requires.cells, c.loop-cell-test.false, c.loop-cell.auto.cell-end) in
    c.loop-cell.invariant.listed ∙ ap (λ k. owners_of c.args.bases.now (named_below c.args.builders.now k)) all
