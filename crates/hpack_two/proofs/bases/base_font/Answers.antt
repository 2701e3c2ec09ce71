-- What was made is the font as instances are made of it, which is in range.
use Rattle.std.proofs.Common.{sym, ap, ◌∙◌, subst, Some, None, map, w32, FitsSigned, rules}
use Rattle.std.proofs.lemmas.Int.{to_z-of_z}
use Rattle.tfm_read.specs.declared.character.CharInfo.{CharInfo}
use Rattle.tfm_read.specs.declared.tfm.Tfm.{Tfm}
use Rattle.instance_core.specs.Bases.{IsBase}
use Rattle.hpack_two.proofs.StockBases.{base-kept, made-is}
use Rattle.hpack_two.proofs.bases.base_font.Goals as goal

pub returns-in-None-clause-kept : goal.returns-in-None-clause-kept
returns-in-None-clause-kept c =
    let font = c.args.font.now in
    let fits : FitsSigned w32 c.size-size.result = search rules in
    let chars = c.as_slice.ensures ∙ ap (λ (tfm : Tfm). tfm.chars) c.tfm.ensures in
    let widths = c.in_ok-widths.ensures ∙ ap (map (λ (char : CharInfo). char.width)) chars in
    subst IsBase (sym (made-is font _ c.in_ok-widths.widths None (to_z-of_z w32 c.size-size.result fits ∙ c.size-size.ensures.exact) widths (sym c.expand.ensures ∙ c.in-None.is)))
    (base-kept font (λ code inside. (c.widths_are_fix_words.ensures.own code inside, λ step e is known. c.widths_are_fix_words.ensures.expanded code step inside e is known)))

pub returns-in-Some-clause-kept : goal.returns-in-Some-clause-kept
returns-in-Some-clause-kept c =
    let font = c.args.font.now in
    let fits : FitsSigned w32 c.size-size.result = search rules in
    let chars = c.as_slice.ensures ∙ ap (λ (tfm : Tfm). tfm.chars) c.tfm.ensures in
    let widths = c.in_ok-widths.ensures ∙ ap (map (λ (char : CharInfo). char.width)) chars in
    subst IsBase (sym (made-is font _ c.in_ok-widths.widths (Some c.in-Some.expand) (to_z-of_z w32 c.size-size.result fits ∙ c.size-size.ensures.exact) widths (sym c.expand.ensures ∙ c.in-Some.is)))
    (base-kept font (λ code inside. (c.widths_are_fix_words.ensures.own code inside, λ step e is known. c.widths_are_fix_words.ensures.expanded code step inside e is known)))
