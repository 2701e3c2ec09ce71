use Rattle.std.proofs.Common.{◌≡◌, ◌<◌, arith, sym, ◌∙◌, ap, Some, length, get_or, rules, FitsSigned, w32}
use Rattle.std.specs.List.{slice_get}
use Rattle.std.proofs.lemmas.Int.{to_z-of_z}
use Rattle.instance_core.specs.Bases.{AreBases}
use Rattle.instance_core.specs.Cells.{cells_of, cell_at, steps_of}
use Rattle.instance_core.proofs.CellNumbers.{cells-walk, cells-walk_here, cells-walk_end, number_of-found}
use Rattle.instance_core.proofs.numbers.cell_of.Goals as goal

found : (c : goal.After-step_at) → slice_get (cells_of c.args.bases.now) c.args.number ≡ Some (cell_at c.loop-font.font c.step_at.result)
found c =
    let inside : c.loop-font.place < length (steps_of (get_or c.fonts-base-items.result.now c.loop-font.font c.base-item.result)) =
    omega (arith, c.if-place-steps.true, c.steps-steps.ensures.exact, ap (λ f. length (steps_of f)) c.base-item.is) in
    let step : slice_get (steps_of (get_or c.fonts-base-items.result.now c.loop-font.font c.base-item.result)) c.loop-font.place ≡ Some c.step_at.result =
    ap (λ f. slice_get (steps_of f) c.loop-font.place) (sym c.base-item.is) ∙ c.step_at.ensures in
    ap (λ fonts. slice_get (cells_of fonts) c.args.number) (sym c.fonts-base-items.ensures.fonts)
    ∙ c.loop-font.invariant.same
    ∙ cells-walk_here c.fonts-base-items.result.now c.loop-font.font c.loop-font.place c.base-item.result c.step_at.result
    c.loop-font-test.true inside step

pub returns-then-place-steps-clause-exact : goal.returns-then-place-steps-clause-exact
returns-then-place-steps-clause-exact c =
    let fits : FitsSigned w32 c.step_at.result = search rules in
    simp to_z-of_z (found c)

pub returns-then-place-steps-clause-back : goal.returns-then-place-steps-clause-back
returns-then-place-steps-clause-back c =
    let fits : FitsSigned w32 c.step_at.result = search rules in
    let bases : AreBases c.args.bases.now = rw c.fonts-base-items.ensures.fonts at c.fonts-base-items.ensures.kept in
    simp to_z-of_z (number_of-found c.args.bases.now c.args.number (cell_at c.loop-font.font c.step_at.result) bases.each c.requires (found c))

pub loop-font-preserved : goal.loop-font-preserved
loop-font-preserved c =
    let steps : c.steps-steps.result ≡ length (steps_of (get_or c.fonts-base-items.result.now c.loop-font.font c.base-item.result)) =
    c.steps-steps.ensures.exact ∙ ap (λ f. length (steps_of f)) c.base-item.is in
    let walk = cells-walk c.fonts-base-items.result.now c.loop-font.font c.loop-font.place c.base-item.result
    c.loop-font-test.true (omega (arith, steps)) c.loop-font.invariant.inside in
    rw steps (record { inside = walk.0; same = c.loop-font.invariant.same ∙ walk.1 })

pub unreachable-requires : goal.unreachable-requires
unreachable-requires c =
    cells-walk_end c.fonts-base-items.result.now c.loop-font.font c.loop-font.place (omega arith) c.loop-font.invariant.inside
