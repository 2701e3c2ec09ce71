-- The rows, one after another.
use Rattle.std.proofs.Common.{◌≡◌, ◌∙◌, ap, sym, arith, ◌<◌, ◌++◌, ◌∷◌, [], List, length, take, Some}
use Rattle.std.specs.Prelude.{slice_get}
use Rattle.std.proofs.lemmas.Option.{slice_get-get_or}
use Rattle.dvi_write.specs.declared.row.FontRow.{FontRow}
use Rattle.job_dvi.specs.Rows.{rows_of}
use Rattle.job_dvi.proofs.WritableOver.{no-rows, rows-next}
use Rattle.job_dvi.proofs.rows.rows.Goals as goal

pub loop-number-init : goal.loop-number-init
loop-number-init c = c.from_vec-rows.ensures ∙ c.in_ok-with_capacity.ensures.items ∙ sym (no-rows c.args.stock.now)

pub loop-number-preserved : goal.loop-number-preserved
loop-number-preserved c =
    let fonts = c.args.fonts.now in
    let stock = c.args.stock.now in
    let number = c.loop-number.number in
    let inside : number < length fonts = omega (arith, c.loop-number-test.true, c.count-count.ensures.exact, c.requires.same) in
    let has_decl : slice_get fonts number ≡ Some c.index-fonts-number.result =
    slice_get-get_or fonts number c.index-fonts-number.result inside ∙ ap (λ d. Some d) (sym c.index-fonts-number.is) in
    c.in_ok-push.ensures.ok
    ∙ ap (λ (rows : List FontRow). rows ++ c.in_ok-row.field-0 ∷ []) c.loop-number.invariant
    ∙ ap (λ (row : FontRow). rows_of (take number fonts) stock ++ row ∷ []) c.in_ok-row.ensures
    ∙ sym (rows-next fonts stock number c.index-fonts-number.result c.font.result.now has_decl c.font.ensures)
