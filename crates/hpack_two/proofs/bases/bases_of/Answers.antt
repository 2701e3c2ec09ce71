-- One font more.
use Rattle.std.proofs.Common.{◌++◌, ◌∷◌, [], sym, ap, ◌∙◌, subst, List, map, take}
use Rattle.std.specs.Prelude.{All}
use Rattle.std.proofs.lemmas.List.Elements.{All-push}
use Rattle.instance_core.specs.declared.font.BaseFont.{BaseFont}
use Rattle.instance_core.specs.Bases.{IsBase}
use Rattle.hpack_two.specs.Over.{base_of}
use Rattle.hpack_two.proofs.StockBases.{map-next}
use Rattle.hpack_two.proofs.bases.bases_of.Goals as goal

pub loop-number-preserved : goal.loop-number-preserved
loop-number-preserved c =
    let made = c.in_ok-base_font.field-0 in
    let before = c.loop-number.fonts.items in
    let pushed = c.in_ok-push.ensures.items in
    record {
      are =
          pushed
          ∙ ap (λ (fonts : List BaseFont). fonts ++ made ∷ []) c.loop-number.invariant.are
          ∙ ap (λ (font : BaseFont). map base_of (take c.loop-number.number c.args.stock.now) ++ font ∷ []) c.in_ok-base_font.ensures.exact
          ∙ sym (map-next base_of c.args.stock.now c.loop-number.number c.font.result.now c.font.ensures);
      kept = subst (All IsBase) (sym pushed) (All-push IsBase before made c.loop-number.invariant.kept c.in_ok-base_font.ensures.kept);
    }
