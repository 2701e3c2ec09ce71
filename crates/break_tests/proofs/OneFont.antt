-- Over a stock of one font all that may be expanded is alike.
--     one_shares              for every list of items
use Rattle.std.proofs.Common.{◌≡◌, ℕ, zero, suc, refl, sym, ap, ◌∙◌, List, [], ◌∷◌, length}
use Rattle.std.specs.Prelude.{All, filter_map, flat_map, Option, Some, None}
use Rattle.std.specs.List.{cons_option}
use Rattle.std.proofs.lemmas.List.Elements.{All-nil, All-cons, All-contains}
use Rattle.std.proofs.lemmas.Option.{same_Some}
use Rattle.font_stock.specs.declared.expand.Expand.{Expand}
use Rattle.font_stock.specs.declared.font.Font.{Font}
use Rattle.micro_num.specs.declared.params.Params.{Params}
use Rattle.hlist.specs.declared.item.Item.{Item}
use Rattle.break_rule.specs.Fits.{expand_of, expansions, fonts_of}
use Rattle.break_rule.specs.Over.{AreAlike, Share}

abbrev is_own : Font → Expand → Type 0
is_own font expand = font.expand ≡ Some expand

own-first : (font : Font) (own : Option Expand) → font.expand ≡ own → (rest : List Expand)
    → All (is_own font) rest → All (is_own font) (cons_option own rest)
own-first font None is rest all = all
own-first font (Some e) is rest all = All-cons (is_own font) e rest is all

all-own : (font : Font) (numbers : List ℕ)
    → All (is_own font) (filter_map (expand_of (font ∷ [])) numbers)
all-own font [] = All-nil (is_own font)
all-own font (zero ∷ numbers) =
    own-first font font.expand refl (filter_map (expand_of (font ∷ [])) numbers)
    (all-own font numbers)
all-own font (suc n ∷ numbers) = all-own font numbers

alike : (a b : Expand) → a ≡ b → AreAlike a b
alike a b is = record {
  stretch = ap (λ (e : Expand). e.stretch) is;
  shrink = ap (λ (e : Expand). e.shrink) is;
  step = ap (λ (e : Expand). e.step) is;
}

pub one_shares : (params : Params) (stock : List Font) (items : List Item) → length stock ≡ 1
    → Share params stock items
unfolding expansions
one_shares params [] items one = λ level a b first second. absurd (cc)
one_shares params (font ∷ []) items one = λ level a b first second.
    let all = all-own font (flat_map fonts_of items) in
    let mine = All-contains (is_own font) _ a all first in
    let other = All-contains (is_own font) _ b all second in
    alike a b (same_Some a b (sym mine ∙ other))
one_shares params (font ∷ more ∷ stock) items one = λ level a b first second. absurd (cc)
