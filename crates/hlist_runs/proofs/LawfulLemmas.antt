-- The list of a run is in the run's font, has its codes and kerns, and isn't long.
use Rattle.std.proofs.Common.{◌≡◌, ℕ, suc, ◌+◌, ◌-◌, ◌<◌, ◌≤◌, ℤ, Bool, true, List, [], ◌∷◌, length, take, drop, get_or, arith, All, refl, ap, sym, ◌∙◌}
use Rattle.std.specs.Prelude.{Option, Some, None, Result, Ok, Err, slice_get, slice_range, ⊤}
use Rattle.std.specs.List.{Contains}
use Rattle.std.proofs.lemmas.List.Elements.{All-nil, All-cons, All-head, All-tail, All-take, All-drop, All-from_get_or}
use Rattle.font_stock.specs.declared.font.Font.{Font}
use Rattle.lig_kern.specs.Covering.{IsOfFont, Lawful}
use Rattle.lig_kern.specs.Outcome.{outcome}
use Rattle.lig_kern.specs.Running.{AllExist, Answers, IsRun}
use Rattle.lig_kern.specs.declared.fault.LigFault.{LigFault}
use Rattle.lig_kern.specs.declared.glyph.Glyph.{Glyph}
use Rattle.lig_kern.specs.declared.glyph.Glyph.TheVariants.{Char, Lig, Kern}
use Rattle.lig_kern.proofs.OutcomeLemmas.{outcome-answers}
use Rattle.lig_kern.proofs.OwnLemmas.{run-lawful}
use Rattle.tfm_read.specs.Ranges.{exists_at}
use Rattle.tfm_read.specs.declared.tfm.Tfm.{Tfm}
use Rattle.hlist.specs.Bounds.{OfFont, HasChar, HasLig, HasKern, IsSubOf}
use Rattle.hlist.specs.declared.item.KernLeft.{KernLeft}
use Rattle.hlist.specs.declared.item.Sub.{Sub}
use Rattle.hlist_runs.specs.Lawful.{IsSubIn, IsLawfulList}
use Rattle.hlist_runs.specs.Runs.{left_of, sub_of, subs_of, list_end, run_subs}

-- the glyph before another is the font's, where there is one
abbrev IsBeforeOf : Tfm → Option Glyph → Type 0
IsBeforeOf tfm None = ⊤
IsBeforeOf tfm (Some glyph) = IsOfFont tfm glyph

abbrev of_font : (stock : List Font) (number : ℕ) (font : Font) (P : Font → Type 0) → slice_get stock number ≡ Some font → P font
    → OfFont stock number P
of_font stock number font P is holds = record { font = font; is = is; holds = holds }

kern-own : (stock : List Font) (number : ℕ) (font : Font) (codes : List ℕ) (before : Option Glyph) (fix : ℤ)
    → slice_get stock number ≡ Some font → IsBeforeOf font.tfm before → Contains font.tfm.kerns fix
    → IsSubOf stock (sub_of number font.size codes before (Kern fix)) × IsSubIn number (sub_of number font.size codes before (Kern fix))
kern-own stock number font codes None fix is own has = (tt, tt)
kern-own stock number font codes (Some (Char code at)) fix is own has = (
  of_font stock number font (HasKern (record { font = number; code = code; fix = fix })) is
      (record { glyph = own; kern = has }),
  refl,
)
kern-own stock number font codes (Some (Lig code from to)) fix is own has = (
  of_font stock number font (HasKern (record { font = number; code = code; fix = fix })) is
      (record { glyph = own; kern = has }),
  refl,
)
kern-own stock number font codes (Some (Kern other)) fix is own has = (tt, tt)

-- an entry is the font's
sub-own : (stock : List Font) (number : ℕ) (font : Font) (codes : List ℕ) (before : Option Glyph) (glyph : Glyph)
    → slice_get stock number ≡ Some font → All (λ code. HasChar code font) codes
    → IsBeforeOf font.tfm before → IsOfFont font.tfm glyph
    → IsSubOf stock (sub_of number font.size codes before glyph) × IsSubIn number (sub_of number font.size codes before glyph)
sub-own stock number font codes before (Char code at) is exist first own =
    (of_font stock number font (HasChar code) is own, refl)
sub-own stock number font codes before (Lig code from to) is exist first own = (
  of_font stock number font (HasLig code (slice_range codes from to)) is
      (record { own = own; covered = All-take (λ code. HasChar code font) (to - from) (drop from codes) (All-drop (λ code. HasChar code font) from codes exist) }),
  refl,
)
sub-own stock number font codes before (Kern fix) is exist first own =
    kern-own stock number font codes before fix is first own.0

-- the entries of a run's glyphs are the font's
subs-own : (stock : List Font) (number : ℕ) (font : Font) (codes : List ℕ) (before : Option Glyph) (glyphs : List Glyph)
    → slice_get stock number ≡ Some font → All (λ code. HasChar code font) codes
    → IsBeforeOf font.tfm before → All (IsOfFont font.tfm) glyphs
    → All (IsSubOf stock) (subs_of number font.size codes before glyphs)
    × All (IsSubIn number) (subs_of number font.size codes before glyphs)
unfolding subs_of
subs-own stock number font codes before [] is exist first own = (All-nil (IsSubOf stock), All-nil (IsSubIn number))
subs-own stock number font codes before (glyph ∷ glyphs) is exist first own =
    let here = All-head (IsOfFont font.tfm) glyph glyphs own in
    let one = sub-own stock number font codes before glyph is exist first here in
    let more = subs-own stock number font codes (Some glyph) glyphs is exist here (All-tail (IsOfFont font.tfm) glyph glyphs own) in
    (All-cons (IsSubOf stock) _ _ one.0 more.0, All-cons (IsSubIn number) _ _ one.1 more.1)

pub subs-length : (number : ℕ) (size : ℤ) (codes : List ℕ) (before : Option Glyph) (glyphs : List Glyph)
    → length (subs_of number size codes before glyphs) ≡ length glyphs
unfolding subs_of
subs-length number size codes before [] = refl
subs-length number size codes before (glyph ∷ glyphs) = ap (λ (n : ℕ). suc n) (subs-length number size codes (Some glyph) glyphs)

exist-each : (font : Font) (codes : List ℕ) → AllExist font.tfm.chars codes → All (λ code. HasChar code font) codes
exist-each font codes exist = All-from_get_or (λ code. HasChar code font) codes 0 exist

-- the entries of a run
pub glyphs-lawful : (stock : List Font) (number : ℕ) (font : Font) (codes : List ℕ) (left right : Bool) (glyphs : List Glyph)
    → slice_get stock number ≡ Some font → IsRun font.tfm codes left right glyphs
    → IsLawfulList stock number codes (subs_of number font.size codes None glyphs)
glyphs-lawful stock number font codes left right glyphs is run =
    let lawful = run-lawful font.tfm codes left right glyphs run in
    let both = subs-own stock number font codes None glyphs is (exist-each font codes run.exist) tt lawful.own in
    let few = lawful.few in
    let same = subs-length number font.size codes None glyphs in
    record { own = both.0; in_font = both.1; few = omega (arith, few, same) }

end-lawful : (stock : List Font) (number : ℕ) (font : Font) (codes : List ℕ) (left right : Bool)
    (end : Result (List Glyph) LigFault) (subs : List Sub) → slice_get stock number ≡ Some font
    → Answers font.tfm codes left right end → list_end number font.size codes end ≡ Ok subs
    → IsLawfulList stock number codes subs
end-lawful stock number font codes left right (Ok glyphs) subs is answer e =
    let same : subs_of number font.size codes None glyphs ≡ subs = cc in
    rw (sym same) (glyphs-lawful stock number font codes left right glyphs is answer)
end-lawful stock number font codes left right (Err fault) subs is answer e = absurd cc

pub run_subs-lawful : (stock : List Font) (number : ℕ) (font : Font) (codes : List ℕ) (left right : Bool) (subs : List Sub)
    → slice_get stock number ≡ Some font → run_subs number font.tfm font.size codes left right ≡ Ok subs
    → IsLawfulList stock number codes subs
unfolding run_subs
run_subs-lawful stock number font codes left right subs is e =
    end-lawful stock number font codes left right (outcome font.tfm codes left right) subs is
    (outcome-answers font.tfm codes left right) e
