-- A change of one font among the declared ones is a change of the font that is seen.
use Rattle.std.proofs.Common.{◌≡◌, ℕ, ◌<◌, List, length, get_or, Some, refl, sym, ap, ◌∙◌}
use Rattle.std.proofs.Math.ListN.{set}
use Rattle.std.proofs.lemmas.List.{map-set}
use Rattle.std.proofs.lemmas.Option.{slice_get-map, slice_get_read}
use Rattle.std.specs.Option.{option_map}
use Rattle.std.specs.Prelude.{slice_get}
use Rattle.job_text.specs.declared.font_decl.FontDecl.{FontDecl}
use Rattle.job_text.specs.Fonts.{Font, font_of, fonts_of, change_found, change_font}

font_at : (fonts : List FontDecl) (number : ℕ) (old : FontDecl) → number < length fonts → old ≡ get_or fonts number old → slice_get (fonts_of fonts) number ≡ Some (font_of old)
font_at fonts number old inside is = slice_get-map font_of fonts number ∙ ap (option_map font_of) (slice_get_read fonts _ number old refl inside is)

pub change_font-set : (fonts : List FontDecl) (number : ℕ) (old new : FontDecl) (change : Font → Font) → number < length fonts → old ≡ get_or fonts number old → font_of new ≡ change (font_of old) → fonts_of (set fonts number new) ≡ change_font (fonts_of fonts) number change
change_font-set fonts number old new change inside is same =
    map-set font_of fonts number new
    ∙ ap (λ (f : Font). set (fonts_of fonts) number f) same
    ∙ sym (ap (change_found (fonts_of fonts) number change) (font_at fonts number old inside is))
