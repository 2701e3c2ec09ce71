use Rattle.std.proofs.Common.{◌≡◌, ◌<◌, arith, sym, ◌∙◌, ap, Some, None, length, get_or, refl, rules, ◌+◌, FitsSigned, w32}
use Rattle.std.proofs.lemmas.Int.{to_z-of_z}
use Rattle.instance_core.specs.Cells.{place_of, number_of}
use Rattle.instance_core.proofs.CellNumbers.{number_of-place, number_of-no_place, number_of-no_font, number_of-few, cell-found}
use Rattle.instance_core.proofs.numbers.cell_number.Goals as goal

pub returns-then-number-fonts-clause-exact : goal.returns-then-number-fonts-clause-exact
returns-then-number-fonts-clause-exact c =
    sym (number_of-no_font c.args.bases.now c.args.cell (rw c.fonts.ensures.fonts at c.if-number-fonts.true))

pub returns-in_err-place-clause-exact : goal.returns-in_err-place-clause-exact
returns-in_err-place-clause-exact c =
    let fits : FitsSigned w32 c.args.cell.step = search rules in
    let below : c.args.cell.font < length c.args.bases.now = rw c.fonts.ensures.fonts at c.if-number-fonts.false in
    let asked = simp to_z-of_z at c.place_of.ensures in
    let font : c.index-fonts-number.result ≡ get_or c.args.bases.now c.args.cell.font c.index-fonts-number.result =
    rw c.fonts-2.ensures.fonts at c.index-fonts-number.is in
    let place : place_of (get_or c.args.bases.now c.args.cell.font c.index-fonts-number.result) c.args.cell.step ≡ None =
    ap (λ f. place_of f c.args.cell.step) (sym font) ∙ sym asked ∙ c.in_err-place.was in
    c.from_residual.ensures ∙ sym (number_of-no_place c.args.bases.now c.args.cell.font c.args.cell c.index-fonts-number.result below refl place)

exact : (c : goal.After-first_cell) → number_of c.args.bases.now c.args.cell ≡ Some (c.first_cell.result + c.in_ok-place.place)
exact c =
    let fits : FitsSigned w32 c.args.cell.step = search rules in
    let below : c.args.cell.font < length c.args.bases.now = rw c.fonts.ensures.fonts at c.if-number-fonts.false in
    let asked = simp to_z-of_z at c.place_of.ensures in
    let font : c.index-fonts-number.result ≡ get_or c.args.bases.now c.args.cell.font c.index-fonts-number.result =
    rw c.fonts-2.ensures.fonts at c.index-fonts-number.is in
    let place : place_of (get_or c.args.bases.now c.args.cell.font c.index-fonts-number.result) c.args.cell.step ≡ Some c.in_ok-place.place =
    ap (λ f. place_of f c.args.cell.step) (sym font) ∙ sym asked ∙ c.in_ok-place.was in
    number_of-place c.args.bases.now c.args.cell.font c.args.cell c.index-fonts-number.result c.first_cell.result c.in_ok-place.place
    below refl c.first_cell.ensures.exact place

pub overflow_add-result : goal.overflow_add-result
overflow_add-result c =
    let bases = rw c.fonts.ensures.fonts at c.fonts.ensures.kept in
    omega (arith, number_of-few c.args.bases.now c.args.cell (c.first_cell.result + c.in_ok-place.place) bases.each bases.few (exact c))

pub returns-clause-exact : goal.returns-clause-exact
returns-clause-exact c = sym (exact c)

pub returns-clause-back : goal.returns-clause-back
returns-clause-back c = cell-found c.args.bases.now c.args.cell _ (exact c)
