-- How sums grow by one part at a time, and how large they get.
--     take_step               a list that is one longer
--     fold-step               what a list adds when it is one longer
--     added_step              the same of items, and of entries of a discretionary
--     same-sums               sums are alike where their fields are
--     plus-within             how large two sums are together
--     within-more             a larger bound
use Rattle.std.proofs.Common.{◌≡◌, ℕ, zero, suc, ◌+◌, ◌*◌, ◌^◌, ◌≤◌, refl, ap, arith, List, ◌∷◌, [], ◌++◌, take}
use Rattle.std.specs.Prelude.{ℤ, ◌+ℤ◌, ◌-ℤ◌, unsigned_abs, fold, slice_get, Some}
use Rattle.std.proofs.Common.{w64, FitsSigned, to_z, of_z, ◌∙◌}
use Rattle.std.proofs.lemmas.Int.{ints, to_z-of_z}
use Rattle.std.proofs.lemmas.Option.{none-some, same_Some}
use Rattle.font_stock.specs.declared.font.Font.{Font}
use Rattle.hlist.specs.declared.item.Item.{Item}
use Rattle.hlist.specs.declared.item.Sub.{Sub}
use Rattle.break_rule.specs.declared.sums.Sums.{Sums}
use Rattle.break_rule.specs.Adding.{plus, minus, nothing, sums_of, sums_of_sub, with_item, with_sub, added, added_subs}
use Rattle.break_rule.specs.Kept.{IsWithin}

take-suc : {X : Type 0} (xs : List X) (i : ℕ) (x : X) → slice_get xs i ≡ Some x → take (suc i) xs ≡ take i xs ++ x ∷ []
take-suc [] i x is = absurd (none-some x is)
take-suc (y ∷ ys) zero x is = ap (λ z. z ∷ []) (same_Some y x is)
take-suc (y ∷ ys) (suc i) x is = ap (λ rest. y ∷ rest) (take-suc ys i x is)

pub take_step : {X : Type 0} (xs : List X) (i : ℕ) (x : X) → slice_get xs i ≡ Some x → take (i + 1) xs ≡ take i xs ++ x ∷ []
take_step xs i x is =
    let more : i + 1 ≡ suc i = omega arith in
    ap (λ n. take n xs) more ∙ take-suc xs i x is

pub fold-step : {B X : Type 0} (f : B → X → B) (start : B) (xs : List X) (i : ℕ) (x : X) → slice_get xs i ≡ Some x
    → fold f start (take (suc i) xs) ≡ f (fold f start (take i xs)) x
fold-step f start [] i x is = absurd (none-some x is)
fold-step f start (y ∷ ys) zero x is = ap (f start) (same_Some y x is)
fold-step f start (y ∷ ys) (suc i) x is = fold-step f (f start y) ys i x is

pub added_step : (stock : List Font) (items : List Item) (i : ℕ) (item : Item) → slice_get items i ≡ Some item
    → added stock (take (i + 1) items) ≡ plus (added stock (take i items)) (sums_of stock item)
unfolding added
added_step stock items i item is =
    let more : i + 1 ≡ suc i = omega arith in
    ap (λ (n : ℕ). fold (with_item stock) nothing (take n items)) more ∙ fold-step (with_item stock) nothing items i item is

pub added_subs_step : (stock : List Font) (subs : List Sub) (i : ℕ) (sub : Sub) → slice_get subs i ≡ Some sub
    → added_subs stock (take (i + 1) subs) ≡ plus (added_subs stock (take i subs)) (sums_of_sub stock sub)
unfolding added_subs
added_subs_step stock subs i sub is =
    let more : i + 1 ≡ suc i = omega arith in
    ap (λ (n : ℕ). fold (with_sub stock) nothing (take n subs)) more ∙ fold-step (with_sub stock) nothing subs i sub is

pub same-sums : {a b c d e f g h a' b' c' d' e' f' g' h' : ℤ}
    → a ≡ a' → b ≡ b' → c ≡ c' → d ≡ d' → e ≡ e' → f ≡ f' → g ≡ g' → h ≡ h'
    → ◌≡◌ {A = Sums}
    record { width = a; finite = b; fil = c; fill = d; filll = e; shrink = f; font_stretch = g; font_shrink = h }
    record { width = a'; finite = b'; fil = c'; fill = d'; filll = e'; shrink = f'; font_stretch = g'; font_shrink = h' }
same-sums p q r s t u v w = cc

pub plus-is : (a b : Sums) → ◌≡◌ {A = Sums} (record {
  width = a.width +ℤ b.width;
  finite = a.finite +ℤ b.finite;
  fil = a.fil +ℤ b.fil;
  fill = a.fill +ℤ b.fill;
  filll = a.filll +ℤ b.filll;
  shrink = a.shrink +ℤ b.shrink;
  font_stretch = a.font_stretch +ℤ b.font_stretch;
  font_shrink = a.font_shrink +ℤ b.font_shrink;
}) (plus a b)
unfolding plus
plus-is a b = refl

pub minus-is : (a b : Sums) → ◌≡◌ {A = Sums} (record {
  width = a.width -ℤ b.width;
  finite = a.finite -ℤ b.finite;
  fil = a.fil -ℤ b.fil;
  fill = a.fill -ℤ b.fill;
  filll = a.filll -ℤ b.filll;
  shrink = a.shrink -ℤ b.shrink;
  font_stretch = a.font_stretch -ℤ b.font_stretch;
  font_shrink = a.font_shrink -ℤ b.font_shrink;
}) (minus a b)
unfolding minus
minus-is a b = refl

-- a result that fits is what its bits say
pub back : (z s : ℤ) → FitsSigned w64 z → z ≡ s → to_z w64 (of_z w64 z) ≡ s
back z s fits is = to_z-of_z w64 z fits ∙ is

abs-plus : (n m : ℕ) (x y : ℤ) → unsigned_abs x ≤ n * 2 ^ 33 → unsigned_abs y ≤ m * 2 ^ 33 → unsigned_abs (x +ℤ y) ≤ (n + m) * 2 ^ 33
abs-plus n m x y first second = omega (arith, ints)

abs-minus : (n m : ℕ) (x y : ℤ) → unsigned_abs x ≤ n * 2 ^ 33 → unsigned_abs y ≤ m * 2 ^ 33 → unsigned_abs (x -ℤ y) ≤ (n + m) * 2 ^ 33
abs-minus n m x y first second = omega (arith, ints)

pub plus-within : (n m : ℕ) (a b : Sums) → IsWithin n a → IsWithin m b → IsWithin (n + m) (plus a b)
unfolding plus
plus-within n m a b own other = record {
  width = abs-plus n m a.width b.width own.width other.width;
  finite = abs-plus n m a.finite b.finite own.finite other.finite;
  fil = abs-plus n m a.fil b.fil own.fil other.fil;
  fill = abs-plus n m a.fill b.fill own.fill other.fill;
  filll = abs-plus n m a.filll b.filll own.filll other.filll;
  shrink = abs-plus n m a.shrink b.shrink own.shrink other.shrink;
  font_stretch = abs-plus n m a.font_stretch b.font_stretch own.font_stretch other.font_stretch;
  font_shrink = abs-plus n m a.font_shrink b.font_shrink own.font_shrink other.font_shrink;
}

pub minus-within : (n m : ℕ) (a b : Sums) → IsWithin n a → IsWithin m b → IsWithin (n + m) (minus a b)
unfolding minus
minus-within n m a b own other = record {
  width = abs-minus n m a.width b.width own.width other.width;
  finite = abs-minus n m a.finite b.finite own.finite other.finite;
  fil = abs-minus n m a.fil b.fil own.fil other.fil;
  fill = abs-minus n m a.fill b.fill own.fill other.fill;
  filll = abs-minus n m a.filll b.filll own.filll other.filll;
  shrink = abs-minus n m a.shrink b.shrink own.shrink other.shrink;
  font_stretch = abs-minus n m a.font_stretch b.font_stretch own.font_stretch other.font_stretch;
  font_shrink = abs-minus n m a.font_shrink b.font_shrink own.font_shrink other.font_shrink;
}

le-more : (n m x : ℕ) → n ≤ m → x ≤ n * 2 ^ 33 → x ≤ m * 2 ^ 33
le-more n m x more fits = omega (arith, more, fits)

pub within-more : (n m : ℕ) (sums : Sums) → n ≤ m → IsWithin n sums → IsWithin m sums
within-more n m sums more own = record {
  width = le-more n m (unsigned_abs sums.width) more own.width;
  finite = le-more n m (unsigned_abs sums.finite) more own.finite;
  fil = le-more n m (unsigned_abs sums.fil) more own.fil;
  fill = le-more n m (unsigned_abs sums.fill) more own.fill;
  filll = le-more n m (unsigned_abs sums.filll) more own.filll;
  shrink = le-more n m (unsigned_abs sums.shrink) more own.shrink;
  font_stretch = le-more n m (unsigned_abs sums.font_stretch) more own.font_stretch;
  font_shrink = le-more n m (unsigned_abs sums.font_shrink) more own.font_shrink;
}
