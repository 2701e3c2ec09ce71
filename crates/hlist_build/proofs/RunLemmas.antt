-- What a run in a font says of what a list of a discretionary gives.
use Rattle.std.proofs.Common.{◌≡◌, ℕ, List, true, ◌⊎◌, inl, inr, ap, sym}
use Rattle.std.specs.Prelude.{Result, Ok, Err, None}
use Rattle.font_stock.specs.declared.font.Font.{Font}
use Rattle.lig_kern.specs.Outcome.{outcome}
use Rattle.lig_kern.specs.declared.fault.LigFault.{LigFault}
use Rattle.lig_kern.specs.declared.fault.LigFault.TheVariants.{NoMemory}
use Rattle.lig_kern.specs.declared.glyph.Glyph.{Glyph}
use Rattle.hlist_runs.specs.Runs.{subs_of}
use Rattle.hlist_build.specs.Runs.{list_end, list_given, disc_fault}
use Rattle.hlist_build.specs.declared.fault.ParFault.TheVariants.{NoMemory as no_memory}

abbrev pub Run : Type 0
Run = Result (List Glyph) LigFault

pub list-ok : (number : ℕ) (font : Font) (offset : ℕ) (codes : List ℕ) (glyphs : List Glyph)
    → ((◌≡◌ {A = Run} (Ok glyphs) (outcome font.tfm codes true true)) ⊎ (◌≡◌ {A = Run} (Ok glyphs) (Err NoMemory)))
    → list_given number font offset codes ≡ Ok (subs_of number font.size codes None glyphs)
unfolding list_given
list-ok number font offset codes glyphs (inl is) = ap (λ end. list_end number font offset codes end) (sym is)
list-ok number font offset codes glyphs (inr is) = absurd cc

pub list-err : (number : ℕ) (font : Font) (offset : ℕ) (codes : List ℕ) (fault : LigFault)
    → ((◌≡◌ {A = Run} (Err fault) (outcome font.tfm codes true true)) ⊎ (◌≡◌ {A = Run} (Err fault) (Err NoMemory)))
    → ((list_given number font offset codes ≡ Err (disc_fault offset fault)) ⊎ (disc_fault offset fault ≡ no_memory))
unfolding list_given
list-err number font offset codes fault (inl is) = inl (ap (λ end. list_end number font offset codes end) (sym is))
list-err number font offset codes fault (inr is) =
    let lost : fault ≡ NoMemory = cc in
    inr (ap (λ f. disc_fault offset f) lost)
