use Rattle.std.proofs.Common.{◌∙◌, ap, get_or, rules, FitsSigned, w32}
use Rattle.std.proofs.lemmas.Int.{to_z-of_z}
use Rattle.std.proofs.lemmas.List.{get_or_default}
use Rattle.std.proofs.lemmas.List.Elements.{All-get_or}
use Rattle.instance_core.specs.Bases.{IsBase}
use Rattle.instance_core.specs.Instances.{no_font, width_of}
use Rattle.instance_core.proofs.CellNumbers.{in_font-read}
use Rattle.instance_core.proofs.bases.Bases.width.Goals as goal

pub bounds-as_slice-cell : goal.bounds-as_slice-cell
bounds-as_slice-cell c =
    (in_font-read c.self.inside.fonts c.args.self.now c.as_slice.result.now c.self.inside.firsts c.self.inside.cells c.args.cell no_font
    c.self.invariant c.self.view_is c.as_slice.ensures c.requires).font

pub width_at-requires-clause-base : goal.width_at-requires-clause-base
width_at-requires-clause-base c =
    let here = in_font-read c.self.inside.fonts c.args.self.now c.as_slice.result.now c.self.inside.firsts c.self.inside.cells c.args.cell no_font
    c.self.invariant c.self.view_is c.as_slice.ensures c.requires in
    let each = rw (← c.as_slice.ensures) at c.self.invariant.bases.each in
    rw c.index-as_slice-cell.is (All-get_or IsBase c.as_slice.result.now c.args.cell.font c.index-as_slice-cell.result here.font each)

pub width_at-requires-clause-low : goal.width_at-requires-clause-low
width_at-requires-clause-low c =
    let fits : FitsSigned w32 c.args.cell.step = search rules in
    let here = in_font-read c.self.inside.fonts c.args.self.now c.as_slice.result.now c.self.inside.firsts c.self.inside.cells c.args.cell c.index-as_slice-cell.result
    c.self.invariant c.self.view_is c.as_slice.ensures c.requires in
    simp to_z-of_z (rw c.index-as_slice-cell.is here.low)

pub width_at-requires-clause-high : goal.width_at-requires-clause-high
width_at-requires-clause-high c =
    let fits : FitsSigned w32 c.args.cell.step = search rules in
    let here = in_font-read c.self.inside.fonts c.args.self.now c.as_slice.result.now c.self.inside.firsts c.self.inside.cells c.args.cell c.index-as_slice-cell.result
    c.self.invariant c.self.view_is c.as_slice.ensures c.requires in
    simp to_z-of_z (rw c.index-as_slice-cell.is here.high)

pub returns : goal.returns
returns c =
    let fits : FitsSigned w32 c.args.cell.step = search rules in
    let fits_width : FitsSigned w32 c.width_at.result = search rules in
    let here = in_font-read c.self.inside.fonts c.args.self.now c.as_slice.result.now c.self.inside.firsts c.self.inside.cells c.args.cell no_font
    c.self.invariant c.self.view_is c.as_slice.ensures c.requires in
    let same = get_or_default c.as_slice.result.now c.args.cell.font c.index-as_slice-cell.result no_font here.font in
    let width = simp to_z-of_z at c.width_at.ensures in
    simp to_z-of_z (width ∙ ap (λ f. width_of f c.args.cell.step c.args.code) (c.index-as_slice-cell.is ∙ same)
    ∙ ap (λ fonts. width_of (get_or fonts c.args.cell.font no_font) c.args.cell.step c.args.code) (c.as_slice.ensures ∙ c.self.view_is))
