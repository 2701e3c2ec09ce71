-- Lines that are put one below the other, and the first that doesn't fit.
use Rattle.std.proofs.Common.{◌≡◌, ℕ, suc, ◌+◌, ◌-◌, ◌<◌, ◌^◌, refl, ap, ◌∙◌, arith, Bool, true, false, cond, not, ◌&&◌, List, [], ◌∷◌, ◌++◌, append_assoc, length, length-append, ℤ, Option, Some, None}
use Rattle.std.specs.List.{position_from, last_or, slice_get, AllByRecursion}
use Rattle.std.specs.Prelude.{unsigned_abs}
use Rattle.std.proofs.lemmas.Bool.Decides.{nat_tests}
use Rattle.std.proofs.lemmas.Int.{ints}
use Rattle.micro_num.specs.declared.params.Params.{Params}
use Rattle.instance_core.specs.declared.page.Packed.{Packed}
use Rattle.instance_core.specs.declared.page.PageLine.{PageLine}
use Rattle.dvi_write.specs.Stacking.{stacked, on_baseline, is_place, is_stackable}
use Rattle.dvi_write.proofs.FirstUses.{last_or-push}

pub stacked-step : (params : Params) (placed : List PageLine) (line : Packed) (rest : List Packed) (p : PageLine)
    → p ≡ on_baseline params (last_or None placed) line
    → (placed ++ p ∷ []) ++ stacked params (last_or None (placed ++ p ∷ [])) rest ≡ placed ++ stacked params (last_or None placed) (line ∷ rest)
stacked-step params placed line rest p is =
    ap (λ o. (placed ++ p ∷ []) ++ stacked params o rest) (last_or-push None placed p)
    ∙ append_assoc placed (p ∷ []) (stacked params (Some p) rest)
    ∙ ap (λ q. placed ++ q ∷ stacked params (Some q) rest) is

pub AllByRecursion-push : {X : Type 0} (P : X → Type 0) (xs : List X) (x : X) → AllByRecursion P xs → P x → AllByRecursion P (xs ++ x ∷ [])
AllByRecursion-push P [] x all here = (here, tt)
AllByRecursion-push P (y ∷ ys) x all here = (all.0, AllByRecursion-push P ys x all.1 here)

pub past-none : (placed : List PageLine) (start : ℕ) → AllByRecursion (λ p. is_stackable p ≡ true) placed
    → position_from (λ p. not (is_stackable p)) start placed ≡ None
past-none [] start all = refl
past-none (p ∷ ps) start all =
    ap (λ b. cond (not b) (Some start) (position_from (λ q. not (is_stackable q)) (start + 1) ps)) all.0 ∙ past-none ps (start + 1) all.1

pub past-first : (placed : List PageLine) (p : PageLine) (rest : List PageLine) (start : ℕ) → AllByRecursion (λ q. is_stackable q ≡ true) placed
    → is_stackable p ≡ false → position_from (λ q. not (is_stackable q)) start (placed ++ p ∷ rest) ≡ Some (start + length placed)
past-first [] p rest start all past =
    ap (λ b. cond (not b) (Some start) (position_from (λ q. not (is_stackable q)) (start + 1) rest)) past ∙ ap Some (omega arith)
past-first (q ∷ qs) p rest start all past =
    ap (λ b. cond (not b) (Some start) (position_from (λ x. not (is_stackable x)) (start + 1) (qs ++ p ∷ rest))) all.0
    ∙ past-first qs p rest (start + 1) all.1 past ∙ ap Some (omega arith)

pub nothing_left : {X : Type 0} (xs : List X) → length xs ≡ 0 → xs ≡ []
nothing_left [] none = refl
nothing_left (x ∷ xs) none = absurd (omega arith)

-- the last element
last_or-cons : {X : Type 0} (d : Option X) (x : X) (xs : List X) → last_or d (x ∷ xs) ≡ slice_get (x ∷ xs) (length xs)
last_or-cons d x [] = refl
last_or-cons d x (y ∷ ys) = last_or-cons (Some x) y ys

pub last_or-slice : {X : Type 0} (xs : List X) → last_or None xs ≡ slice_get xs (length xs - 1)
last_or-slice [] = refl
last_or-slice (x ∷ xs) = last_or-cons None x xs ∙ ap (slice_get (x ∷ xs)) (let n : length xs ≡ suc (length xs) - 1 = omega arith in n)

-- a line whose baseline and lowest point are places
pub place_fits : (z : ℤ) → is_place z ≡ true → unsigned_abs z < 2 ^ 30
place_fits z is = grind (arith, ints, nat_tests)

pub both_true : (a b : Bool) → a && b ≡ true → (a ≡ true) × (b ≡ true)
both_true true b is = (refl, is)
both_true false b is = absurd (cc)

length-stacked : (params : Params) (above : Option PageLine) (lines : List Packed) → length (stacked params above lines) ≡ length lines
length-stacked params above [] = refl
length-stacked params above (l ∷ ls) = let rest = length-stacked params (Some (on_baseline params above l)) ls in omega (arith, rest)

-- how many lines there are, those so far and those that are left
pub stacked-count : (params : Params) (placed : List PageLine) (above : Option PageLine) (rest lines all : List Packed)
    → placed ++ stacked params above rest ≡ stacked params None lines → lines ≡ all → length placed + length rest ≡ length all
stacked-count params placed above rest lines all is same =
    let both = length-append placed (stacked params above rest) in
    let whole = ap length is in
    omega (arith, both, whole, length-stacked params above rest, length-stacked params None lines, ap length same)
