-- What the calls owe, from what their steps tell.
use Rattle.std.proofs.Common.{◌≡◌, ◌≢◌, ℕ, ◌+◌, ◌*◌, ◌<◌, ◌≤◌, refl, ap, sym, ◌∙◌, subst, arith, Bool, true, false, cond, eqb, List, [], ◌∷◌, ◌++◌, length, length-append, Option, Some, None, IfSome, All, Contains, pos, ◌+ℤ◌, ℤ, eq-eqb, ne_eqb}
use Rattle.std.proofs.lemmas.Int.{ints}
use Rattle.std.proofs.lemmas.Bool.Decides.{nat_tests}
use mathlib.Core.Logic.{dite}
use native.Mathlib.Decide.{ℕ_discrete}
use Rattle.atomic_table.specs.Table.{Me}
use Rattle.atomic_table.specs.Seated.{TableId}
use Rattle.instance_core.specs.declared.font.BaseFont.{BaseFont}
use Rattle.instance_core.specs.Instances.{instance_width}
use Rattle.instance_table.specs.declared.answers.Claim.{Claim}
use Rattle.instance_table.specs.declared.answers.Claim.TheVariants.{Won, Lost}
use Rattle.instance_table.specs.declared.answers.Seen.{Seen}
use Rattle.instance_table.specs.declared.answers.Seen.TheVariants.{Empty, Building as BeingBuilt, Built}
use Rattle.instance_table.specs.declared.view.Building.{Building}
use Rattle.instance_table.specs.declared.view.Claimed.{Claimed}
use Rattle.instance_table.specs.declared.view.View.{View}
use Rattle.instance_table.specs.Places.{cell_count, cell_of_number, IsStored}
use Rattle.instance_table.specs.Plays.{IsNews, IsKnown}
use Rattle.instance_table.specs.Seats.{Standing, Sitting, IsSeatOf, Finds, Wins, seen_by, claim_by, HasStored, IsCarried}
use Rattle.instance_table.specs.Steps.{looked, tried, won, lost, joined_with}
use Rattle.instance_table.specs.Rule.{holding}
use Rattle.instance_table.specs.Totals.{one_if, times}
use Rattle.instance_table.specs.declared.view.Drawn.{Drawn}
use Rattle.instance_table.proofs.RuleLemmas.{live_is}
use Rattle.instance_table.proofs.TotalLemmas.{one_if-is}
use Rattle.std.proofs.lemmas.List.Elements.{All-weaker, All-contains, Contains-push}

pub still_of : (t : Standing) (s : Sitting) (old now : TableId) (v w : View) → record { table = old; view = v } ≡ s → IsSeatOf t s
    → now ≡ old → w.bases ≡ v.bases → w.draws ≡ v.draws → IsSeatOf t (record { table = now; view = w })
still_of t s old now v w is of same bases draws = (
  same ∙ (ap (λ (x : Sitting). x.table) is ∙ of.0),
  bases ∙ (ap (λ (x : Sitting). x.view.bases) is ∙ of.1),
  draws ∙ (ap (λ (x : Sitting). x.view.draws) is ∙ of.2),
)

seen_empty : (word : ℕ) → seen_by word ≡ Empty → word ≡ 0
seen_empty word is = by_test (eqb word 0) (eqb word 1) refl is
  where
    by_test : (b d : Bool) → eqb word 0 ≡ b → cond b Empty (cond d Built BeingBuilt) ≡ Empty → word ≡ 0
    by_test true d e h = grind (arith, nat_tests)
    by_test false true e h = absurd (cc)
    by_test false false e h = absurd (cc)

pub finds : (v w : View) (cell word : ℕ) (answer : Seen) → w ≡ looked v cell word → IsNews v cell word → answer ≡ seen_by word → Finds v cell answer w
finds v w cell word answer is news by = record {
  word = word;
  view = is;
  by_word = by;
  another = news.another;
  seen = λ inside e. news.seen inside (seen_empty word (sym by ∙ e));
  ready = λ inside. by ∙ ap seen_by (news.ready inside);
}

claim_won : (word : ℕ) → claim_by word ≡ Won → word ≡ 0
claim_won word is = by_test (eqb word 0) refl is
  where
    by_test : (b : Bool) → eqb word 0 ≡ b → cond b Won (Lost word) ≡ Won → word ≡ 0
    by_test true e h = grind (arith, nat_tests)
    by_test false e h = absurd (cc)

pub wins : (v w : View) (cell word : ℕ) (answer : Claim) → w ≡ tried v cell word → IsNews v cell word → answer ≡ claim_by word → Wins v cell answer w
wins v w cell word answer is news by = record {
  word = word;
  view = is;
  by_word = by;
  another = news.another;
  seen = λ inside e. news.seen inside (claim_won word (sym by ∙ e));
  ready = λ inside. by ∙ ap claim_by (news.ready inside);
}

pub claim_by_won : (word : ℕ) → word ≡ 0 → Won ≡ claim_by word
claim_by_won word e = sym (ap (λ (b : Bool). cond b Won (Lost word)) (eq-eqb word 0 e))

pub claim_by_lost : (word : ℕ) → word ≢ 0 → Lost word ≡ claim_by word
claim_by_lost word e = sym (ap (λ (b : Bool). cond b Won (Lost word)) (ne_eqb word 0 e))

pub tried_is_won : (v : View) (cell word : ℕ) → word ≡ 0 → tried v cell word ≡ won v cell
tried_is_won v cell word e = ap (λ (b : Bool). cond b (won v cell) (lost v cell word)) (eq-eqb word 0 e)

pub tried_is_lost : (v : View) (cell word : ℕ) → word ≢ 0 → tried v cell word ≡ lost v cell word
tried_is_lost v cell word e = ap (λ (b : Bool). cond b (won v cell) (lost v cell word)) (ne_eqb word 0 e)

pub tried_bases : (v : View) (cell word : ℕ) → (tried v cell word).bases ≡ v.bases
tried_bases v cell word = by_test (eqb word 0)
  where
    by_test : (b : Bool) → (cond b (won v cell) (lost v cell word)).bases ≡ v.bases
    by_test true = refl
    by_test false = refl

pub tried_draws : (v : View) (cell word : ℕ) → (tried v cell word).draws ≡ v.draws
tried_draws v cell word = by_test (eqb word 0)
  where
    by_test : (b : Bool) → (cond b (won v cell) (lost v cell word)).draws ≡ v.draws
    by_test true = refl
    by_test false = refl

pub one_stored : (b : Option Building) (x : Building) (k : ℕ) → HasStored b k → b ≡ Some x → x.stored ≡ k
one_stored b x k has is = subst (λ (y : Option Building). HasStored y k) is has

pub is_right : (bases bases' : List BaseFont) (cell code code' word : ℕ) (z : ℤ) → word < 4294967296 → pos word ≡ z +ℤ pos 2147483648
    → z ≡ instance_width bases' (cell_of_number bases' cell) code → bases ≡ bases' → code' ≡ code → IsStored bases cell code' word
unfolding IsStored
is_right bases bases' cell code code' word z fits exact width same codes = (
  fits,
  exact ∙ (ap (λ (y : ℤ). y +ℤ pos 2147483648) width
      ∙ ap (λ (p : List BaseFont × ℕ). instance_width p.0 (cell_of_number p.0 cell) p.1 +ℤ pos 2147483648) (λ i. (sym same i, sym codes i))),
)

pub stored_fits : (bases : List BaseFont) (cell code word : ℕ) → IsStored bases cell code word → word < 4294967296
unfolding IsStored
stored_fits bases cell code word is = is.0

pub width_is : (bases bases' : List BaseFont) (cell code word : ℕ) (z : ℤ) → IsStored bases cell code word → bases ≡ bases'
    → pos word ≡ z +ℤ pos 2147483648 → z ≡ instance_width bases' (cell_of_number bases' cell) code
unfolding IsStored
width_is bases bases' cell code word z is same exact =
    let other : pos word ≡ instance_width bases' (cell_of_number bases' cell) code +ℤ pos 2147483648 =
    is.1 ∙ ap (λ (bs : List BaseFont). instance_width bs (cell_of_number bs cell) code +ℤ pos 2147483648) same in
    same_less z (instance_width bases' (cell_of_number bases' cell) code) (sym exact ∙ other)
  where
    same_less : (x y : ℤ) → x +ℤ pos 2147483648 ≡ y +ℤ pos 2147483648 → x ≡ y
    same_less x y e = omega (arith, ints)

pub room_left : (v new : View) (cell word room : ℕ) (claims : List Claimed) → new ≡ tried v cell word → word ≡ 0
    → length new.claims ≤ cell_count v.bases → claims ≡ v.claims → cell_count v.bases ≤ room → length claims < room
room_left v new cell word room claims is empty few same big =
    let won_is : new ≡ won v cell = is ∙ tried_is_won v cell word empty in
    let longer = ap (λ (w : View). length w.claims) won_is in
    let push = length-append v.claims ((record { cell = cell; number = v.number }) ∷ []) in
    let old = ap length same in
    omega arith

pub in_range : (bases : List BaseFont) (b : Option Building) (x : Building) → b ≡ Some x
    → IfSome b (λ y. (y.cell < cell_count bases) × (y.stored ≤ 256)) → x.cell < cell_count bases
in_range bases b x is each = (subst (λ (o : Option Building). IfSome o (λ y. (y.cell < cell_count bases) × (y.stored ≤ 256))) is each).0

pub carried : (v w : View) → w.spent ≡ false → v.number ≡ 0 → IsKnown w → IsKnown (joined_with v w) → IsCarried w (joined_with v w)
carried v w live first known both =
    let brought = All-contains (λ n. (n ≢ 0) × (n < v.made)) (v.joined ++ w.number ∷ []) w.number (both.joined first) (Contains-push v.joined w.number) in
    let alone : w.joined ≡ [] = known.other brought.0 in record {
      not_first = brought.0;
      is_made = brought.1;
      claims = All-weaker (λ (e : Claimed). 1 ≤ holding e.number w) (λ (e : Claimed). e.number ≡ w.number) (λ e own. its_own e.number alone own) w.claims known.claims_own;
      draws = All-weaker (λ (e : Drawn). 1 ≤ holding e.number w) (λ (e : Drawn). e.number ≡ w.number) (λ e own. its_own e.number alone own) w.drawn known.draws_own;
    }
  where
    its_own : (n : ℕ) → w.joined ≡ [] → 1 ≤ holding n w → n ≡ w.number
    its_own n alone own =
        let is = live_is w.spent (one_if (eqb w.number n) + times n w.joined) live in
        let none : times n w.joined ≡ 0 = ap (times n) alone in
        sym (one_if-is w.number n (omega arith))

pub room_for_both : (v w : View) (claims claims' : List Claimed) (room : ℕ) → claims ≡ v.claims → claims' ≡ w.claims
    → length (joined_with v w).claims ≤ cell_count v.bases → cell_count v.bases ≤ room → length claims + length claims' ≤ room
room_for_both v w claims claims' room mine theirs few big =
    let a = ap length mine in let b = ap length theirs in let c = length-append v.claims w.claims in omega arith
