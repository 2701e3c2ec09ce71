-- What a run says of the list that it gives.
use Rattle.std.proofs.Common.{◌≡◌, ℕ, Bool, true, false, ◌&&◌, List, ◌⊎◌, inl, inr, refl, ap, sym}
use Rattle.std.specs.Prelude.{Option, Some, None, Result, Ok, Err}
use Rattle.lig_kern.specs.declared.fault.LigFault.{LigFault}
use Rattle.lig_kern.specs.declared.fault.LigFault.TheVariants.{NoMemory}
use Rattle.hlist.specs.declared.item.Item.{Item}
use Rattle.hlist.specs.declared.item.Sub.{Sub}
use Rattle.hlist_runs.specs.Runs.{run_subs}
use Rattle.hlist_hyph.specs.Pieces.{Hyphening, list_in, run_of, is_place, covers_letters, code_of, whole_before, joint_behind, joint}

abbrev pub SubRun : Type 0
SubRun = Result (List Sub) LigFault

pub run-some : (w : Hyphening) (codes : List ℕ) (left right : Bool) (subs : List Sub)
    → ((◌≡◌ {A = SubRun} (Ok subs) (run_subs w.number w.tfm w.size codes left right)) ⊎ (◌≡◌ {A = SubRun} (Ok subs) (Err NoMemory)))
    → Some subs ≡ run_of w codes left right
unfolding run_of
run-some w codes left right subs (inl is) = ap (λ (run : SubRun). list_in run) is
run-some w codes left right subs (inr is) = absurd cc

pub run-none : (w : Hyphening) (codes : List ℕ) (left right : Bool) (fault : LigFault) → (fault ≡ NoMemory → ⊥)
    → ((◌≡◌ {A = SubRun} (Err fault) (run_subs w.number w.tfm w.size codes left right)) ⊎ (◌≡◌ {A = SubRun} (Err fault) (Err NoMemory)))
    → None ≡ run_of w codes left right
unfolding run_of
run-none w codes left right fault other (inl is) = ap (λ (run : SubRun). list_in run) is
run-none w codes left right fault other (inr is) = absurd (other cc)

-- ---- a place between two items

pub joint-on : (w : Hyphening) (end : ℕ) (item : Item) (items : List Item) → covers_letters item ≡ true → is_place w.places end ≡ true
    → joint w end item items ≡ joint_behind w (code_of item) (whole_before items)
unfolding joint
joint-on w end item items covers placed = rw (covers, placed) refl

and-false : (b : Bool) → (b && false) ≡ false
and-false true = refl
and-false false = refl

pub joint-off : (w : Hyphening) (end : ℕ) (item : Item) (items : List Item) → is_place w.places end ≡ false → joint w end item items ≡ None
unfolding joint
joint-off w end item items placed = rw (placed, and-false (covers_letters item)) refl

pub joint-none : (w : Hyphening) (end : ℕ) (item : Item) (items : List Item) → covers_letters item ≡ false → joint w end item items ≡ None
unfolding joint
joint-none w end item items covers = rw covers refl
