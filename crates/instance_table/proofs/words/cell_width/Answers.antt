use Rattle.std.proofs.Common.{rules, arith, ◌≡◌, ◌<◌, ℕ, sym, ap, ◌∙◌, subst, refl, get_or, pos, w32, FitsSigned}
use Rattle.std.proofs.lemmas.Int.{ints, to_z-of_z}
use Rattle.std.proofs.lemmas.Option.{slice_get_within, get_or_from_slice_get}
use Rattle.instance_core.specs.Cells.{cells_of, cell_at}
use Rattle.instance_core.specs.Instances.{instance_width}
use Rattle.instance_table.specs.Places.{cell_count, cell_of_number}
use Rattle.instance_table.proofs.words.cell_width.Goals as goal

pub cell_of-requires : goal.cell_of-requires
unfolding cell_count
cell_of-requires c = c.requires

pub width-requires : goal.width-requires
unfolding cell_count
width-requires c = (c.args.cell, c.requires, get_or_from_slice_get (cells_of c.args.bases.now) c.args.cell c.cell_of.result c.cell_of.result c.cell_of.ensures.exact)

pub returns : goal.returns
unfolding cell_of_number
returns c =
    let fits : FitsSigned w32 c.width.result = search rules in
    let cell = get_or_from_slice_get (cells_of c.args.bases.now) c.args.cell c.cell_of.result (cell_at 0 (pos 0)) c.cell_of.ensures.exact in
    to_z-of_z w32 c.width.result fits ∙ (c.width.ensures ∙ ap (λ x. instance_width c.args.bases.now x c.args.code) (sym cell))
