-- What holds of the items of a run, glyph by glyph.
use Rattle.std.proofs.Common.{◌≡◌, ℕ, ◌+◌, ◌<◌, ◌≤◌, ℤ, List, [], ◌∷◌, ◌++◌, length, drop, get_or, refl, ap, ◌∙◌}
use Rattle.std.specs.Prelude.{Option, Some, None}
use Rattle.std.proofs.lemmas.List.{at_drop_more, at_drop_all}
use Rattle.hlist_runs.specs.Runs.{sub_of, subs_of}
use Rattle.hlist_build.specs.Runs.{with_break, run_items}
use Rattle.lig_kern.specs.Covering.{characters}
use Rattle.lig_kern.specs.declared.glyph.Glyph.{Glyph}
use Rattle.lig_kern.specs.declared.glyph.Glyph.TheVariants.{Char}
use Rattle.hlist.specs.declared.item.Sub.TheVariants.{Char as sub_char}

-- ---- one more glyph of a loop over them

pub run_items-turn : (number : ℕ) (size hyphen : ℤ) (codes : List ℕ) (before : Option Glyph) (glyphs : List Glyph) (i : ℕ) (d : Glyph)
    → i < length glyphs → run_items number size hyphen codes before (drop i glyphs)
    ≡ with_break hyphen (sub_of number size codes before (get_or glyphs i d))
    ++ run_items number size hyphen codes (Some (get_or glyphs i d)) (drop (i + 1) glyphs)
unfolding run_items subs_of
run_items-turn number size hyphen codes before glyphs i d lt =
    at_drop_more (λ rest. run_items number size hyphen codes before rest) glyphs i d lt

pub run_items-end : (number : ℕ) (size hyphen : ℤ) (codes : List ℕ) (before : Option Glyph) (glyphs : List Glyph) (i : ℕ)
    → length glyphs ≤ i → run_items number size hyphen codes before (drop i glyphs) ≡ []
unfolding run_items subs_of
run_items-end number size hyphen codes before glyphs i le =
    at_drop_all (λ rest. run_items number size hyphen codes before rest) glyphs i le

-- ---- a run on which no program acts

-- what a character gives doesn't depend on what stands before it
plain-any : (number : ℕ) (size hyphen : ℤ) (codes : List ℕ) (before : Option Glyph) (at : ℕ) (rest : List ℕ)
    → run_items number size hyphen codes before (characters at rest) ≡ run_items number size hyphen codes None (characters at rest)
unfolding run_items subs_of
plain-any number size hyphen codes before at [] = refl
plain-any number size hyphen codes before at (code ∷ rest) = refl

plain-next : (number : ℕ) (size hyphen : ℤ) (codes : List ℕ) (at code : ℕ) (rest : List ℕ)
    → run_items number size hyphen codes None (characters at (code ∷ rest))
    ≡ with_break hyphen (sub_char number code) ++ run_items number size hyphen codes None (characters (at + 1) rest)
unfolding run_items subs_of
plain-next number size hyphen codes at code rest =
    ap (λ l. with_break hyphen (sub_char number code) ++ l) (plain-any number size hyphen codes (Some (Char code at)) (at + 1) rest)

pub plain-turn : (number : ℕ) (size hyphen : ℤ) (codes : List ℕ) (i d : ℕ) → i < length codes
    → run_items number size hyphen codes None (characters i (drop i codes))
    ≡ with_break hyphen (sub_char number (get_or codes i d)) ++ run_items number size hyphen codes None (characters (i + 1) (drop (i + 1) codes))
plain-turn number size hyphen codes i d lt =
    at_drop_more (λ rest. run_items number size hyphen codes None (characters i rest)) codes i d lt
    ∙ plain-next number size hyphen codes i (get_or codes i d) (drop (i + 1) codes)

pub plain-end : (number : ℕ) (size hyphen : ℤ) (codes : List ℕ) (i : ℕ) → length codes ≤ i
    → run_items number size hyphen codes None (characters i (drop i codes)) ≡ []
unfolding run_items subs_of
plain-end number size hyphen codes i le =
    at_drop_all (λ rest. run_items number size hyphen codes None (characters i rest)) codes i le
