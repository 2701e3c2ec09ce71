use Rattle.std.proofs.Common.{◌≡◌, arith, ap, sym, FitsSigned, w32, to_z, of_z, rules, ◌∙◌, refl, pos, take}
use Rattle.std.proofs.lemmas.Int.{to_z-of_z}
use Rattle.std.proofs.lemmas.List.{drop_all}
use Rattle.dvi_write.specs.Output.{grown}
use Rattle.dvi_write.specs.Writing.{glyphs_bytes}
use Rattle.dvi_write.proofs.Grown.{grown_nothing, on_ok_whole}
use Rattle.dvi_write.proofs.WritingSteps.{glyphs_step, glyph_fonts_step}
use Rattle.dvi_write.proofs.glyphs.gather_glyphs.Goals as goal

pub loop-glyph-preserved : goal.loop-glyph-preserved
loop-glyph-preserved c =
    let fits : FitsSigned w32 c.right_edge-h.result = search rules in
    let edge : to_z w32 (of_z w32 c.right_edge-h.result) ≡ c.right_edge-h.result = to_z-of_z w32 c.right_edge-h.result fits in
    rw edge (record {
      within = c.right_edge-h.ensures.place;
      room = c.in_ok-count.ensures.within;
      bytes =
          glyphs_step c.args.rows.now c.args.numbering.now (grown c.loop-glyph.out (take c.loop-glyph.count c.loop-glyph.gathered)) (grown c.gather_glyph.new.out (take c.in_ok-count.count c.gather_glyph.new.gathered))
          _ _ _ _ c.args.glyphs.now c.loop-glyph.glyph-index _ (record { x = pos 0; cell = record { font = 0; step = pos 0 }; code = 0; advance = pos 0 }) c.loop-glyph-test.true refl
          c.in_ok-count.ensures.bytes c.in_ok-count.ensures.after c.right_edge-h.ensures.edge ∙ c.loop-glyph.invariant.bytes;
      after =
          glyph_fonts_step c.args.numbering.now _ _ c.args.glyphs.now c.loop-glyph.glyph-index _ (record { x = pos 0; cell = record { font = 0; step = pos 0 }; code = 0; advance = pos 0 }) c.loop-glyph-test.true refl c.in_ok-count.ensures.after
          ∙ c.loop-glyph.invariant.after;
    })

pub returns-clause-bytes : goal.returns-clause-bytes
returns-clause-bytes c =
    let all = drop_all c.loop-glyph.glyph-index c.args.glyphs.now (omega arith) in
    on_ok_whole c.put.result c.put.new.self (grown c.loop-glyph.out (take c.loop-glyph.count c.loop-glyph.gathered)) _ c.put.ensures
    (sym (grown_nothing (grown c.loop-glyph.out (take c.loop-glyph.count c.loop-glyph.gathered)))
    ∙ ap (λ rest. grown (grown c.loop-glyph.out (take c.loop-glyph.count c.loop-glyph.gathered)) (glyphs_bytes c.args.rows.now c.args.numbering.now c.loop-glyph.fonts (to_z w32 c.loop-glyph.h-bits) rest)) (sym all)
    ∙ c.loop-glyph.invariant.bytes)
