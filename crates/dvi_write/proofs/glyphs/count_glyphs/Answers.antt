use Rattle.std.proofs.Common.{◌≡◌, ◌+◌, arith, ap, sym, FitsSigned, w32, to_z, of_z, rules, ◌∙◌, refl, pos, length}
use Rattle.std.proofs.lemmas.Int.{to_z-of_z}
use Rattle.std.proofs.lemmas.List.{drop_all}
use Rattle.instance_core.specs.declared.page.Placed.{Placed}
use Rattle.dvi_write.specs.Writing.{glyphs_bytes}
use Rattle.dvi_write.proofs.Counted.{grown_counting, glyphs_counted, counted_step, on_ok_counted}
use Rattle.dvi_write.proofs.WritingSteps.{glyph_fonts_step}
use Rattle.dvi_write.proofs.glyphs.count_glyphs.Goals as goal

pub loop-glyph-preserved : goal.loop-glyph-preserved
loop-glyph-preserved c =
    let fits : FitsSigned w32 c.right_edge-h.result = search rules in
    let edge : to_z w32 (of_z w32 c.right_edge-h.result) ≡ c.right_edge-h.result = to_z-of_z w32 c.right_edge-h.result fits in
    let counts = grown_counting c.loop-glyph.out c.put_font.new.out _ c.loop-glyph.invariant.kept c.in_ok-put_font.ensures.bytes in
    rw edge (record {
      within = c.right_edge-h.ensures.place;
      few = omega (arith, c.loop-glyph.invariant.few, c.glyph_length-counted.ensures.few);
      kept = counts.kept;
      bytes = counts.bytes ∙ c.loop-glyph.invariant.bytes;
      count =
          counted_step c.put_font.new.out.length c.loop-glyph.out.length c.loop-glyph.counted c.glyph_length-counted.result _ _ _ _ _ _ counts.count c.glyph_length-counted.ensures.exact
          (glyphs_counted c.args.rows.now c.args.numbering.now c.loop-glyph.fonts c.put_font.new.fonts (to_z w32 c.loop-glyph.h-bits) c.right_edge-h.result c.args.glyphs.now c.loop-glyph.glyph-index _
          (record { x = pos 0; cell = record { font = 0; step = pos 0 }; code = 0; advance = pos 0 }) c.loop-glyph-test.true refl c.in_ok-put_font.ensures.after c.right_edge-h.ensures.edge)
          c.loop-glyph.invariant.count;
      after =
          glyph_fonts_step c.args.numbering.now _ _ c.args.glyphs.now c.loop-glyph.glyph-index _ (record { x = pos 0; cell = record { font = 0; step = pos 0 }; code = 0; advance = pos 0 }) c.loop-glyph-test.true refl c.in_ok-put_font.ensures.after
          ∙ c.loop-glyph.invariant.after;
    })

pub returns-clause-bytes : goal.returns-clause-bytes
returns-clause-bytes c =
    let all = drop_all c.loop-glyph.glyph-index c.args.glyphs.now (omega arith) in
    on_ok_counted c.count.result c.args.out.now c.loop-glyph.out c.count.new.self c.loop-glyph.counted
    (glyphs_bytes c.args.rows.now c.args.numbering.now c.args.fonts.now (pos 0) c.args.glyphs.now) c.requires.counting
    c.count.ensures.kept c.count.ensures.length c.count.ensures.bytes c.loop-glyph.invariant.bytes
    (ap (λ rest. c.loop-glyph.out.length + c.loop-glyph.counted + length (glyphs_bytes c.args.rows.now c.args.numbering.now c.loop-glyph.fonts (to_z w32 c.loop-glyph.h-bits) rest)) (sym all)
    ∙ c.loop-glyph.invariant.count)
