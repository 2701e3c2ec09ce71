-- How large demerits are, and what they see of the class of the line before.
--     demerits_near          the demerits of a line to a place that has no great penalty
--     demerits_alike         lines after two classes differ by no more than adjdemerits
use Rattle.std.proofs.Common.{◌≡◌, ℕ, ◌*◌, ◌≤◌, ◌^◌, refl, Bool, true, false, cond, ℤ, pos, neg_ℤ, ◌+ℤ◌, ◌≤ℤ◌, unsigned_abs, nat_le, int_lt, arith}
use Rattle.std.proofs.lemmas.Int.{ints, unsigned_abs-mul}
use Rattle.std.proofs.Math.Nat.{mul-le-mul}
use Rattle.micro_num.specs.declared.params.Params.{Params}
use Rattle.line_break.specs.Tables.{adjacent, far_apart}
use Rattle.line_break.proofs.OrderLemmas.{at_most_abs, at_least_abs}
use Rattle.break_sweep.specs.Costs.{IsAmount}
use Rattle.break_rule.specs.Places.{eject}
use Rattle.break_pass.specs.declared.place.BreakKind.{BreakKind}
use Rattle.break_pass.specs.declared.place.BreakKind.TheVariants.{Discretionary, End, Other}
use Rattle.break_pass.specs.Demerits.{squared, badness_demerits, penalty_demerits, hyphen_demerits, demerits_of, AreSmall}

square_near : (x : ℤ) → unsigned_abs x ≤ 10000 → unsigned_abs (squared x) ≤ 10000 * 10000
square_near x h = let p = unsigned_abs-mul x x in let q = mul-le-mul h h in omega (arith, p, q)

badness_near : (linepenalty : ℤ) (badness : ℕ) → unsigned_abs (badness_demerits linepenalty badness) ≤ 2 ^ 32
badness_near linepenalty badness = by (nat_le 10000 (unsigned_abs (linepenalty +ℤ pos badness))) refl
  where
    by : (far : Bool) → nat_le 10000 (unsigned_abs (linepenalty +ℤ pos badness)) ≡ far
        → unsigned_abs (cond far (pos (10 ^ 8)) (squared (linepenalty +ℤ pos badness))) ≤ 2 ^ 32
    by true e = omega arith
    by false e =
        let h : unsigned_abs (linepenalty +ℤ pos badness) ≤ 10000 = grind arith in
        let q = square_near (linepenalty +ℤ pos badness) h in
        omega (arith, q)

penalty_near : (penalty : ℤ) → unsigned_abs penalty ≤ 10000 → unsigned_abs (penalty_demerits penalty) ≤ 2 ^ 32
penalty_near penalty h =
    let q = square_near penalty h in by q (int_lt (pos 0) penalty) (int_lt eject penalty)
  where
    by : unsigned_abs (squared penalty) ≤ 10000 * 10000 → (above few : Bool)
        → unsigned_abs (cond above (squared penalty) (cond few (neg_ℤ (squared penalty)) (pos 0))) ≤ 2 ^ 32
    by q true few = omega (arith, q)
    by q false true = omega (arith, ints, q)
    by q false false = omega arith

adjacent_near : (adjdemerits : ℤ) (c d : ℕ) → unsigned_abs adjdemerits ≤ 2 ^ 31 → unsigned_abs (adjacent adjdemerits c d) ≤ 2 ^ 32
adjacent_near adjdemerits c d h = by (far_apart c d)
  where
    by : (far : Bool) → unsigned_abs (cond far adjdemerits (pos 0)) ≤ 2 ^ 32
    by true = omega (arith, h)
    by false = omega arith

hyphens_near : (params : Params) (before to : BreakKind) → AreSmall params → unsigned_abs (hyphen_demerits params before to) ≤ 2 ^ 32
hyphens_near params Discretionary Discretionary h = let d = h.doubles in omega (arith, d)
hyphens_near params Discretionary End h = let f = h.finals in omega (arith, f)
hyphens_near params Discretionary Other h = omega arith
hyphens_near params End to h = omega arith
hyphens_near params Other to h = omega arith

sum_near : (a b c d : ℤ) → unsigned_abs a ≤ 2 ^ 32 → unsigned_abs b ≤ 2 ^ 32 → unsigned_abs c ≤ 2 ^ 32 → unsigned_abs d ≤ 2 ^ 32
    → IsAmount (a +ℤ b +ℤ c +ℤ d)
sum_near a b c d p q r s =
    let t = at_most_abs a in let u = at_most_abs b in let v = at_most_abs c in let w = at_most_abs d in
    let e = at_least_abs a in let f = at_least_abs b in let g = at_least_abs c in let h = at_least_abs d in
    record { low = omega (arith, ints); high = omega (arith, ints) }

pub demerits_near : (params : Params) (before : BreakKind) (earlier badness class : ℕ) (penalty : ℤ) (to : BreakKind)
    → AreSmall params → unsigned_abs penalty ≤ 10000 → IsAmount (demerits_of params before earlier badness class penalty to)
unfolding demerits_of
demerits_near params before earlier badness class penalty to h p =
    sum_near (badness_demerits params.linepenalty badness) (penalty_demerits penalty) (adjacent params.adjdemerits earlier class) (hyphen_demerits params before to)
    (badness_near params.linepenalty badness) (penalty_near penalty p)
    (adjacent_near params.adjdemerits earlier class h.classes) (hyphens_near params before to h)

alike : (a b c d e : ℤ) → c ≤ℤ (d +ℤ e) → (a +ℤ b +ℤ c) ≤ℤ ((a +ℤ b +ℤ d) +ℤ e)
alike a b c d e h = omega (arith, ints, h)

adjacent_alike : (a : ℤ) (s t : Bool) → cond s a (pos 0) ≤ℤ (cond t a (pos 0) +ℤ pos (unsigned_abs a))
adjacent_alike a true true = let u = at_most_abs a in let v = at_least_abs a in omega (arith, ints)
adjacent_alike a true false = let u = at_most_abs a in omega (arith, ints)
adjacent_alike a false true = let v = at_least_abs a in omega (arith, ints)
adjacent_alike a false false = let u = at_most_abs a in let v = at_least_abs a in omega (arith, ints)

moved : (a b c d e f : ℤ) → c ≤ℤ (d +ℤ e) → (a +ℤ b +ℤ c +ℤ f) ≤ℤ ((a +ℤ b +ℤ d +ℤ f) +ℤ e)
moved a b c d e f h = omega (arith, ints, h)

pub demerits_alike : (params : Params) (before : BreakKind) (earlier other badness class : ℕ) (penalty : ℤ) (to : BreakKind)
    → demerits_of params before earlier badness class penalty to
    ≤ℤ (demerits_of params before other badness class penalty to +ℤ pos (unsigned_abs params.adjdemerits))
unfolding demerits_of
demerits_alike params before earlier other badness class penalty to =
    moved (badness_demerits params.linepenalty badness) (penalty_demerits penalty)
    (adjacent params.adjdemerits earlier class) (adjacent params.adjdemerits other class)
    (pos (unsigned_abs params.adjdemerits)) (hyphen_demerits params before to)
    (adjacent_alike params.adjdemerits (far_apart earlier class) (far_apart other class))
