-- How often a size is halved until it is below 2^23.
--     halvings-least     it is the least number of halvings that does it
--     halvings-zero      none where the size is below 2^23
--     halvings-suc       k + 1 where k halvings aren't enough and k + 1 are
use Rattle.std.proofs.Common.{◌≡◌, ℕ, zero, suc, ◌+◌, ◌-◌, ◌*◌, ◌/◌, ◌<◌, ◌≤◌, ◌^◌, refl, arith, zero-add, Bool, true, false, inl, inr, lit≤}
use Rattle.std.proofs.lemmas.Nat.{mul-le}
use Rattle.std.proofs.lemmas.Bool.{cases_lt}
use Rattle.std.specs.Prelude.{nat_lt}
use Rattle.std.proofs.Math.Nat.{div-div-eq-div-mul, pow-succ', pow-suc, suc-add, le_refl, le_antisymm}
use Rattle.std.proofs.lemmas.Bool.Decides.{nat_tests}
use Rattle.micro_num.specs.Scaling.{IsLeastHalving, halvings_within, halvings}

-- one halving more, taken first and taken last
first_halved : (z k : ℕ) → z / 2 ^ suc k ≡ z / 2 / 2 ^ k
first_halved z k = rw (div-div-eq-div-mul z 2 (2 ^ k), pow-succ' 2 k) refl

last_halved : (z k : ℕ) → z / 2 ^ suc k ≡ z / 2 ^ k / 2
last_halved z k = rw (div-div-eq-div-mul z (2 ^ k) 2, pow-suc 2 k) refl

none_for_small : (z : ℕ) → z < 8388608 → IsLeastHalving z 0
none_for_small z small = record { enough = omega arith; least = λ fewer h. omega arith }

-- a large size takes one halving more than its half
more_than_half : (z k fewer : ℕ) → 8388608 ≤ z → IsLeastHalving (z / 2) k → z / 2 ^ fewer < 8388608 → suc k ≤ fewer
more_than_half z k zero large half below = absurd (omega arith)
more_than_half z k (suc fewer) large half below =
    let inner : z / 2 / 2 ^ fewer < 8388608 = rw first_halved at below in
    omega (arith, half.least fewer inner)

one_more : (z k : ℕ) → 8388608 ≤ z → IsLeastHalving (z / 2) k → IsLeastHalving z (suc k)
one_more z k large half =
    record { enough = rw first_halved half.enough; least = λ fewer below. more_than_half z k fewer large half below }

least_within : (most : ℕ) (b : Bool) (z : ℕ) → z ≤ most → nat_lt z 8388608 ≡ b → IsLeastHalving z (halvings_within b most z)
unfolding halvings_within
least_within most true z room small = none_for_small z (grind (arith, nat_tests))
least_within zero false z room large = absurd (grind (arith, nat_tests))
least_within (suc most) false z room large =
    let is_large : 8388608 ≤ z = grind (arith, nat_tests) in
    one_more z _ is_large (least_within most (nat_lt (z / 2) 8388608) (z / 2) (omega arith) refl)

pub halvings-least : (z : ℕ) → IsLeastHalving z (halvings z)
unfolding halvings
halvings-least z = least_within z (nat_lt z 8388608) z (omega arith) refl

power_of_few : (k : ℕ) → k ≤ 4 → 2 ^ k ≤ 16
power_of_few zero few = lit≤ tt
power_of_few (suc zero) few = lit≤ tt
power_of_few (suc (suc zero)) few = lit≤ tt
power_of_few (suc (suc (suc zero))) few = lit≤ tt
power_of_few (suc (suc (suc (suc zero)))) few = lit≤ tt
power_of_few (suc (suc (suc (suc (suc k))))) few = absurd (omega arith)

-- fewer halvings leave as much or more
fewer_leave_more : (z k more : ℕ) → z / 2 ^ (more + k) ≤ z / 2 ^ k
fewer_leave_more z k zero = rw zero-add (le_refl _)
fewer_leave_more z k (suc more) =
    let half : z / 2 ^ suc (more + k) ≡ z / 2 ^ (more + k) / 2 = last_halved z (more + k) in
    let before : z / 2 ^ (more + k) ≤ z / 2 ^ k = fewer_leave_more z k more in
    rw (suc-add, half) (omega arith)

pub halvings-zero : (z : ℕ) → z < 8388608 → halvings z ≡ 0
halvings-zero z small =
    let enough : z / 2 ^ 0 < 8388608 = omega arith in
    omega (arith, (halvings-least z).least 0 enough)

not_fewer : (z k n : ℕ) → 8388608 ≤ z / 2 ^ k → z / 2 ^ n < 8388608 → suc k ≤ n
not_fewer z k n short enough =
    elim (cases_lt k n) [
      | inl many ↦ omega arith
      | inr few ↦ absurd (let same : k - n + n ≡ k = omega arith in let more : z / 2 ^ k ≤ z / 2 ^ n = rw same at (fewer_leave_more z n (k - n)) in omega arith)
    ]

pub halvings-suc : (z k : ℕ) → 8388608 ≤ z / 2 ^ k → z / 2 ^ suc k < 8388608 → halvings z ≡ suc k
halvings-suc z k short enough =
    let most : halvings z ≤ suc k = (halvings-least z).least (suc k) enough in
    le_antisymm most (not_fewer z k (halvings z) short (halvings-least z).enough)

-- what is left of a size of a font is at most 2^27 - 16
pub kept_bound : (z k : ℕ) → k ≤ 4 → z / 2 ^ k < 8388608 → z / 2 ^ k * 2 ^ k ≤ 134217712
kept_bound z k few enough =
    let power : 2 ^ k ≤ 16 = power_of_few k few in
    mul-le (z / 2 ^ k) (2 ^ k) 8388607 16 (omega arith) power
