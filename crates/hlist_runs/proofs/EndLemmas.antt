-- What the end of a run says of the list that it gives.
use Rattle.std.proofs.Common.{◌≡◌, ℕ, ℤ, Bool, List, ◌⊎◌, inl, inr, ap, sym}
use Rattle.std.specs.Prelude.{Result, Ok, Err, None}
use Rattle.lig_kern.specs.Outcome.{outcome}
use Rattle.lig_kern.specs.declared.fault.LigFault.{LigFault}
use Rattle.lig_kern.specs.declared.fault.LigFault.TheVariants.{NoMemory}
use Rattle.lig_kern.specs.declared.glyph.Glyph.{Glyph}
use Rattle.tfm_read.specs.declared.tfm.Tfm.{Tfm}
use Rattle.hlist.specs.declared.item.Sub.{Sub}
use Rattle.hlist_runs.specs.Runs.{subs_of, list_end, run_subs}

abbrev pub Run : Type 0
Run = Result (List Glyph) LigFault

abbrev pub SubRun : Type 0
SubRun = Result (List Sub) LigFault

pub list-ok : (number : ℕ) (tfm : Tfm) (size : ℤ) (codes : List ℕ) (left right : Bool) (glyphs : List Glyph) (subs : List Sub)
    → ((◌≡◌ {A = Run} (Ok glyphs) (outcome tfm codes left right)) ⊎ (◌≡◌ {A = Run} (Ok glyphs) (Err NoMemory)))
    → subs ≡ subs_of number size codes None glyphs
    → ((◌≡◌ {A = SubRun} (Ok subs) (run_subs number tfm size codes left right)) ⊎ (◌≡◌ {A = SubRun} (Ok subs) (Err NoMemory)))
unfolding run_subs
list-ok number tfm size codes left right glyphs subs (inl is) made =
    let here : Ok subs ≡ list_end number size codes (outcome tfm codes left right) =
    rw made (ap (λ (end : Run). list_end number size codes end) is) in
    inl here
list-ok number tfm size codes left right glyphs subs (inr is) made = absurd cc

pub list-err : (number : ℕ) (tfm : Tfm) (size : ℤ) (codes : List ℕ) (left right : Bool) (fault : LigFault)
    → ((◌≡◌ {A = Run} (Err fault) (outcome tfm codes left right)) ⊎ (◌≡◌ {A = Run} (Err fault) (Err NoMemory)))
    → ((◌≡◌ {A = SubRun} (Err fault) (run_subs number tfm size codes left right)) ⊎ (◌≡◌ {A = SubRun} (Err fault) (Err NoMemory)))
unfolding run_subs
list-err number tfm size codes left right fault (inl is) =
    inl (ap (λ (end : Run). list_end number size codes end) is)
list-err number tfm size codes left right fault (inr is) =
    let lost : fault ≡ NoMemory = cc in inr (ap (λ (f : LigFault). Err f) lost)
