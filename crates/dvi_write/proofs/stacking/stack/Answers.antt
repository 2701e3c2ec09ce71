use Rattle.std.proofs.Common.{◌≡◌, ◌-◌, length, map, fold, sym, ap, ◌∙◌, pos, None, FitsSigned, w32, rules}
use Rattle.std.proofs.lemmas.Int.{to_z-of_z}
use Rattle.std.specs.Int.{int_max}
use Rattle.std.specs.List.{last_or, slice_get}
use Rattle.instance_core.specs.declared.page.Packed.{Packed}
use Rattle.dvi_write.specs.Stacking.{stacked, extent_of}
use Rattle.dvi_write.proofs.StackedLines.{last_or-slice}
use Rattle.dvi_write.proofs.stacking.stack.Goals as goal

pub returns : goal.returns
returns c =
    let fits_extent : FitsSigned w32 c.extent_of.result = search rules in
    let fits_width : FitsSigned w32 c.widest-width.result = search rules in
    let lines : c.in_ok-placed.placed.items ≡ stacked c.args.params.now None c.args.lines.items = c.in_ok-placed.ensures.0 in
    let extent : c.extent_of.result ≡ extent_of (last_or None (stacked c.args.params.now None c.args.lines.items)) =
    c.extent_of.ensures
    ∙ ap extent_of (c.last.ensures.value ∙ ap (λ xs. slice_get xs (length xs - 1)) c.as_slice-2.ensures.value ∙ sym (last_or-slice c.in_ok-placed.placed.items) ∙ ap (last_or None) lines) in
    let width : c.widest-width.result ≡ fold int_max (pos 0) (map (λ (line : Packed). line.width) c.args.lines.items) =
    c.widest-width.ensures ∙ ap (λ xs. fold int_max (pos 0) (map (λ (line : Packed). line.width) xs)) c.as_slice.ensures.value in
    simp to_z-of_z ((λ i. record { lines = (c.from_vec.ensures ∙ lines) i; extent = extent i; width = width i }), c.in_ok-placed.ensures.2)
