use Rattle.std.proofs.Common.{◌-ℤ◌, ◌++◌, ap, ◌∙◌, rules, take, FitsSigned, w32}
use Rattle.std.proofs.lemmas.Int.{to_z-of_z}
use Rattle.dvi_write.specs.Commands.{spell, spell_all}
use Rattle.dvi_write.specs.Document.{right, set_code}
use Rattle.dvi_write.specs.Writing.{glyph_bytes, font_bytes}
use Rattle.dvi_write.proofs.Grown.{gathered_glyph}
use Rattle.dvi_write.proofs.glyphs.gather_any_glyph.Goals as goal

pub returns-clause-bytes : goal.returns-clause-bytes
unfolding glyph_bytes
returns-clause-bytes c =
    let fits : FitsSigned w32 c.distance.result = search rules in
    let fits_h : FitsSigned w32 c.args.h = search rules in
    let fits_x : FitsSigned w32 c.args.glyph.now.x = search rules in
    let moved = simp to_z-of_z at c.gather_right-count.ensures.bytes in
    let far = simp to_z-of_z at c.distance.ensures in
    gathered_glyph c.args.out.now c.make_room.new.out c.put_font_behind.new.out (take c.args.count c.args.gathered.now)
    (take c.in_ok-count.count c.args.gathered.now) (take c.gather_right-count.result c.gather_right-count.new.gathered)
    (take c.in_ok-count-2.count c.gather_right-count.new.gathered) (take c.gather_code.result c.gather_code.new.gathered)
    (spell_all (right (c.args.glyph.now.x -ℤ c.args.h))) (font_bytes c.args.rows.now c.args.numbering.now c.args.fonts.now c.args.glyph.now.cell)
    (spell (set_code c.args.glyph.now.code)) c.in_ok-count.ensures.bytes
    (moved ∙ ap (λ d. take c.in_ok-count.count c.args.gathered.now ++ spell_all (right d)) far) c.in_ok-count-2.ensures.bytes
    c.gather_code.ensures.bytes
