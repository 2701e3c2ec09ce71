-- Fonts that expand, found part by part.
--
--     found known fonts     the first of the fonts that differs from a known one, or from the first of them
--     coming stock font parts   the fonts in which parts stand and that expand
use Rattle.std.proofs.Common.{◌≡◌, ℕ, ◌+◌, ◌<◌, ◌≤◌, Bool, true, false, List, [], ◌∷◌, ◌++◌, length, drop, get_or, refl, ap, sym, subst, ◌∙◌}
use Rattle.std.specs.Prelude.{Option, Some, None, option_to_list, option_and_then, filter_map}
use Rattle.std.proofs.lemmas.List.{at_drop_more, at_drop_all}
use Rattle.font_stock.specs.declared.font.Font.{Font}
use Rattle.micro_num.specs.declared.paragraph.PartAt.{PartAt}
use Rattle.micro_num.specs.declared.part.Part.{Part}
use Rattle.micro_num.specs.declared.part.Part.TheVariants.{Char, Space, Normal, Tie, Kern, Skip, Penalty, Hyphen, Disc, Font as font_part}
use Rattle.hlist_build.specs.Mixing.{stands_in, standing, expanding_of, expanding_in, expanding, expand_alike, other_than, first_other}
use Rattle.hlist_build.specs.Parts.{font_after, NamesFont}
use Rattle.hlist_build.specs.declared.mixing.Expanding.{Expanding}

abbrev pub found : Option Expanding → List Expanding → Option ℕ
found None fonts = first_other fonts
found (Some first) fonts = other_than first.expand fonts

abbrev pub coming : List Font → Option ℕ → List PartAt → List Expanding
coming stock font parts = expanding stock (standing font parts)

one-more : (stock : List Font) (number : ℕ) (rest : List ℕ) (o : Option Expanding) → expanding_of stock number ≡ o
    → expanding stock (number ∷ rest) ≡ option_to_list o ++ expanding stock rest
one-more stock number rest None is = rw is refl
one-more stock number rest (Some font) is = rw is refl

standing-more : (stock : List Font) (stands : Option ℕ) (rest : List ℕ) → expanding stock (option_to_list stands ++ rest)
    ≡ option_to_list (option_and_then (expanding_of stock) stands) ++ expanding stock rest
standing-more stock None rest = refl
standing-more stock (Some number) rest = one-more stock number rest (expanding_of stock number) refl

-- one part more
pub coming-turn : (stock : List Font) (font : Option ℕ) (parts : List PartAt) (i : ℕ) (one : PartAt) → i < length parts
    → one ≡ get_or parts i one → coming stock font (drop i parts)
    ≡ option_to_list (expanding_in stock font one.part) ++ coming stock (font_after font one.part) (drop (i + 1) parts)
unfolding standing
coming-turn stock font parts i one lt is =
    at_drop_more (coming stock font) parts i one lt
    ∙ ap (λ next. coming stock font (next ∷ drop (i + 1) parts)) (sym is)
    ∙ standing-more stock (stands_in font one.part) (standing (font_after font one.part) (drop (i + 1) parts))

pub coming-end : (stock : List Font) (font : Option ℕ) (parts : List PartAt) (i : ℕ) → length parts ≤ i
    → coming stock font (drop i parts) ≡ []
unfolding standing
coming-end stock font parts i le = at_drop_all (coming stock font) parts i le

pub found-nothing : (known : Option Expanding) → found known [] ≡ None
unfolding first_other other_than
found-nothing None = refl
found-nothing (Some first) = refl

-- ---- a font more, as the code looks at it

pub passes : (first known : Option Expanding) (here : Option Expanding) (fonts rest : List Expanding) → fonts ≡ option_to_list here ++ rest
    → here ≡ None → known ≡ first → found known rest ≡ found first fonts
passes first known here fonts rest is none same = rw (same, is, none) refl

pub begins : (first known : Option Expanding) (here : Option Expanding) (one : Expanding) (fonts rest : List Expanding)
    → fonts ≡ option_to_list here ++ rest → here ≡ Some one → first ≡ None → known ≡ Some one
    → found known rest ≡ found first fonts
unfolding first_other
begins first known here one fonts rest is some none now = rw (now, none, is, some) refl

pub goes_on : (first known : Option Expanding) (here : Option Expanding) (one : Expanding) (before : Expanding) (fonts rest : List Expanding)
    → fonts ≡ option_to_list here ++ rest → here ≡ Some one → first ≡ Some before → expand_alike before.expand one.expand ≡ true → known ≡ Some before
    → found known rest ≡ found first fonts
unfolding other_than
goes_on first known here one before fonts rest is some was alike now = rw (now, was, is, some, alike) refl

pub differs : (first : Option Expanding) (here : Option Expanding) (one : Expanding) (before : Expanding) (fonts rest : List Expanding)
    → fonts ≡ option_to_list here ++ rest → here ≡ Some one → first ≡ Some before → expand_alike before.expand one.expand ≡ false
    → found first fonts ≡ Some one.font
unfolding other_than
differs first here one before fonts rest is some was other = rw (was, is, some, other) refl

-- a font that is named is in the stock
pub after-in-stock : (n : ℕ) (font : Option ℕ) (part : Part) → ((x : ℕ) → font ≡ Some x → x < n) → NamesFont n part
    → (x : ℕ) → font_after font part ≡ Some x → x < n
after-in-stock n font (font_part number) known names x is =
    let same : number ≡ x = cc in
    subst (λ (k : ℕ). k < n) same names
after-in-stock n font _ known names x is = known x is

pub is-none : (here : Option Expanding) → ((one : Expanding) → here ≡ Some one → ⊥) → here ≡ None
is-none None other = refl
is-none (Some one) other = absurd (other one refl)
