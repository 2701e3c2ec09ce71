-- What holds of the glyphs of a run, glyph by glyph.
use Rattle.std.proofs.Common.{◌≡◌, ℕ, ◌+◌, ◌<◌, ◌≤◌, ℤ, List, [], ◌∷◌, ◌++◌, length, drop, get_or, arith, All, ap, sym, ◌∙◌, append_assoc, append-nil}
use Rattle.std.specs.Prelude.{Option, Some}
use Rattle.std.proofs.lemmas.List.{at_drop_more, at_drop_all}
use Rattle.std.proofs.lemmas.List.Elements.{All-nil, All-cons}
use Rattle.lig_kern.specs.Covering.{Cuts}
use Rattle.lig_kern.specs.declared.glyph.Glyph.{Glyph}
use Rattle.lig_kern.specs.declared.glyph.Glyph.TheVariants.{Char, Lig, Kern}
use Rattle.hlist_runs.specs.Runs.{sub_of, subs_of}
use Rattle.hlist_runs.specs.Within.{IsWithin}

pub cuts-le : (from end : ℕ) (glyphs : List Glyph) → Cuts from end glyphs → from ≤ end
cuts-le from end [] cuts = omega arith
cuts-le from end (Char code at ∷ glyphs) cuts = let more = cuts-le (from + 1) end glyphs cuts.1 in omega (arith, more)
cuts-le from end (Lig code start stop ∷ glyphs) cuts =
    let more = cuts-le stop end glyphs cuts.2 in omega (arith, more, cuts.0, cuts.1)
cuts-le from end (Kern fix ∷ glyphs) cuts = cuts-le from end glyphs cuts

-- each ligature stands for codes of the run
pub cuts-within : (from end : ℕ) (glyphs : List Glyph) → Cuts from end glyphs → All (IsWithin end) glyphs
cuts-within from end [] cuts = All-nil (IsWithin end)
cuts-within from end (Char code at ∷ glyphs) cuts =
    All-cons (IsWithin end) (Char code at) glyphs tt (cuts-within (from + 1) end glyphs cuts.1)
cuts-within from end (Lig code start stop ∷ glyphs) cuts =
    All-cons (IsWithin end) (Lig code start stop) glyphs (cuts.1, cuts-le stop end glyphs cuts.2)
    (cuts-within stop end glyphs cuts.2)
cuts-within from end (Kern fix ∷ glyphs) cuts =
    All-cons (IsWithin end) (Kern fix) glyphs tt (cuts-within from end glyphs cuts)

-- ---- one more glyph of a loop over them

pub subs_of-turn : (number : ℕ) (size : ℤ) (codes : List ℕ) (before : Option Glyph) (glyphs : List Glyph) (i : ℕ) (d : Glyph)
    → i < length glyphs → subs_of number size codes before (drop i glyphs)
    ≡ (sub_of number size codes before (get_or glyphs i d) ∷ [])
    ++ subs_of number size codes (Some (get_or glyphs i d)) (drop (i + 1) glyphs)
unfolding subs_of
subs_of-turn number size codes before glyphs i d lt =
    at_drop_more (λ rest. subs_of number size codes before rest) glyphs i d lt

pub subs_of-end : (number : ℕ) (size : ℤ) (codes : List ℕ) (before : Option Glyph) (glyphs : List Glyph) (i : ℕ)
    → length glyphs ≤ i → subs_of number size codes before (drop i glyphs) ≡ []
unfolding subs_of
subs_of-end number size codes before glyphs i le = at_drop_all (λ rest. subs_of number size codes before rest) glyphs i le

-- a list that a loop makes, when more is put behind it, and when nothing is left
pub longer : {A : Type 0} (made old front rest after total : List A) → made ≡ old ++ front → rest ≡ front ++ after
    → old ++ rest ≡ total → made ++ after ≡ total
longer made old front rest after total put turn so_far =
    ap (λ list. list ++ after) put ∙ append_assoc old front after ∙ ap (λ list. old ++ list) (sym turn) ∙ so_far

pub whole : {A : Type 0} (made rest total : List A) → rest ≡ [] → made ++ rest ≡ total → made ≡ total
whole made rest total none so_far = sym (append-nil made) ∙ ap (λ list. made ++ list) (sym none) ∙ so_far
