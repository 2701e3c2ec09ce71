use Rattle.std.proofs.Common.{◌+◌, ap, ◌∙◌, length, rules, FitsSigned, w32}
use Rattle.std.proofs.lemmas.Int.{to_z-of_z}
use Rattle.dvi_write.specs.Commands.{spell_all}
use Rattle.dvi_write.specs.Document.{right}
use Rattle.dvi_write.proofs.glyphs.glyph_length.Goals as goal

pub returns-clause-exact : goal.returns-clause-exact
returns-clause-exact c =
    let fits : FitsSigned w32 c.distance.result = search rules in
    let fits_h : FitsSigned w32 c.args.h = search rules in
    let fits_x : FitsSigned w32 c.args.glyph.now.x = search rules in
    let moved = simp to_z-of_z at c.right_length.ensures.exact in
    let far = simp to_z-of_z at c.distance.ensures in
    λ i. (moved ∙ ap (λ d. length (spell_all (right d))) far) i + c.code_length.ensures.exact i
