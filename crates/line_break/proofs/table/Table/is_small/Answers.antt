use Rattle.std.proofs.Common.{◌≡◌, ◌∙◌, ◌&&◌, ap, leb, length, FitsSigned, to_z, of_z, rules, arith}
use mir.Syntax.{w32, w64}
use Rattle.std.specs.List.{list_all}
use Rattle.std.proofs.lemmas.Int.{ints}
use Rattle.line_break.specs.Listing.{is_small_amount}
use Rattle.line_break.specs.declared.table.Line.{Line}
use Rattle.line_break.proofs.table.Table.is_small.Goals as goal

pub returns : goal.returns
returns c =
    let t = c.args.self.now in
    let fits : FitsSigned w32 t.adjdemerits = search rules in
    let same : to_z w64 (of_z w64 (to_z w32 (of_z w32 t.adjdemerits))) ≡ t.adjdemerits = omega (arith, ints) in
    ap (λ n. leb n 65536 && c.is_small_amount-adjacent.result && c.are_small.result) c.len.ensures
    ∙ (ap (λ b. leb (length t.legal) 65536 && b && c.are_small.result) (c.is_small_amount-adjacent.ensures ∙ ap is_small_amount same)
    ∙ ap (λ b. leb (length t.legal) 65536 && is_small_amount t.adjdemerits && b)
    (c.are_small.ensures ∙ ap (list_all (λ (l : Line). is_small_amount l.demerits)) c.as_slice.ensures))
