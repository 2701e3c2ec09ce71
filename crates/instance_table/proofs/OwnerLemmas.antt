-- The owners of a table from the claims on its cells.
use Rattle.std.proofs.Common.{◌≡◌, ◌≢◌, ◌⊎◌, ℕ, zero, suc, ◌+◌, ◌<◌, ◌≤◌, refl, ap, sym, ◌∙◌, subst, arith, Bool, true, false, cond, ◌||◌, List, [], ◌∷◌, ◌++◌, map, take, length, set, get_or, eqb, pos, eq-eqb, ne_eqb, Option, Some, None, All, Contains, inl, inr, get_or-set_same, get_or-set_other, length-set}
use Rattle.std.specs.List.{filter}
use Rattle.std.proofs.lemmas.List.{map-append, take_more}
use Rattle.std.proofs.lemmas.List.Elements.{All-nil, All-append, All-head, All-tail, All-filter, All-map, filter_more, filter-append}
use mathlib.Core.Logic.{dite}
use native.Mathlib.Decide.{ℕ_discrete}
use Rattle.instance_core.specs.declared.cell.Cell.{Cell}
use Rattle.instance_core.specs.declared.font.BaseFont.{BaseFont}
use Rattle.instance_core.specs.declared.page.Owner.{Owner}
use Rattle.instance_core.specs.Bases.{IsBase}
use Rattle.instance_core.specs.Cells.{cells_of, cell_at, same_cell, number_of, has_cell, in_cell_order}
use Rattle.instance_core.proofs.CellNumbers.{number_of-each, same_cell-is, same_cell-self}
use Rattle.instance_table.specs.declared.view.Claimed.{Claimed}
use Rattle.instance_table.specs.Closing.{claims_on, claims_below, owner_of, owners_of, builder_in, or_earlier, named, named_below, IsNoted}
use Rattle.instance_table.specs.Places.{cell_count, cell_of_number}
use Rattle.instance_table.specs.Rule.{claims_in}
use Rattle.instance_table.specs.Totals.{total, one_if}
use Rattle.instance_table.proofs.TotalLemmas.{one_if-eq, one_if-other}

pub one_more : (n : ℕ) → n + 1 ≡ suc n
one_more n = omega arith

or_earlier-none : (o : Option ℕ) → or_earlier o None ≡ o
or_earlier-none None = refl
or_earlier-none (Some n) = refl

or_earlier-some : (o p : Option ℕ) (n : ℕ) → o ≡ Some n → or_earlier o p ≡ Some n
or_earlier-some o p n e = ap (λ x. or_earlier x p) e

-- one more claim is the last of its cell, and no other cell's
pub builder-push_same : (es : List Claimed) (e : Claimed) (cell : ℕ) → e.cell ≡ cell → builder_in (es ++ e ∷ []) cell ≡ Some e.number
builder-push_same [] e cell same = ap (λ b. cond b (Some e.number) None) (eq-eqb e.cell cell same)
builder-push_same (d ∷ ds) e cell same =
    or_earlier-some (builder_in (ds ++ e ∷ []) cell) (cond (eqb d.cell cell) (Some d.number) None) e.number (builder-push_same ds e cell same)

pub builder-push_other : (es : List Claimed) (e : Claimed) (cell : ℕ) → e.cell ≢ cell → builder_in (es ++ e ∷ []) cell ≡ builder_in es cell
builder-push_other [] e cell other = ap (λ b. cond b (Some e.number) None) (ne_eqb e.cell cell other)
builder-push_other (d ∷ ds) e cell other =
    ap (λ x. or_earlier x (cond (eqb d.cell cell) (Some d.number) None)) (builder-push_other ds e cell other)

-- the note of one claim more
pub noted-more : (builders : List (Option ℕ)) (claims : List Claimed) (i : ℕ) (d e : Claimed) → i < length claims → e ≡ get_or claims i d
    → IsNoted builders (take i claims) → IsNoted (set builders e.cell (Some e.number)) (take (i + 1) claims)
noted-more builders claims i d e inside is noted cell below =
    let within : cell < length builders = rw length-set at below in
    let more : take (i + 1) claims ≡ take i claims ++ e ∷ [] = take_more claims i d inside ∙ ap (λ x. take i claims ++ x ∷ []) (sym is) in
    dite (ℕ_discrete e.cell cell)
    (λ same.
    ap (λ c. get_or (set builders c (Some e.number)) cell None) same
    ∙ (get_or-set_same builders cell (Some e.number) None within
    ∙ (sym (builder-push_same (take i claims) e cell same) ∙ ap (λ es. builder_in es cell) (sym more))))
    (λ other.
    get_or-set_other builders e.cell cell (Some e.number) None (λ k. other (sym k))
    ∙ (noted cell within
    ∙ (sym (builder-push_other (take i claims) e cell other) ∙ ap (λ es. builder_in es cell) (sym more))))

none_on : (es : List Claimed) (cell : ℕ) → claims_in cell es ≡ 0 → (claims_on es cell ≡ []) × (builder_in es cell ≡ None)
none_on [] cell none = (refl, refl)
none_on (e ∷ es) cell none = by_test (eqb e.cell cell) (λ k. none_on es cell k) none
  where
    by_test : (b : Bool) → (claims_in cell es ≡ 0 → (claims_on es cell ≡ []) × (builder_in es cell ≡ None)) → one_if b + claims_in cell es ≡ 0
        → (cond b (e ∷ claims_on es cell) (claims_on es cell) ≡ []) × (or_earlier (builder_in es cell) (cond b (Some e.number) None) ≡ None)
    by_test true rest h = absurd (omega arith)
    by_test false rest h = let none_later = rest (omega arith) in (none_later.0, or_earlier-none (builder_in es cell) ∙ none_later.1)

pub none_claimed : (es : List Claimed) (cell : ℕ) → claims_in cell es ≡ 0 → claims_on es cell ≡ []
none_claimed es cell none = (none_on es cell none).0

-- where a cell has one claim at most, its builder's is that one
pub named-is : (es : List Claimed) (cell : ℕ) → claims_in cell es ≤ 1 → named cell (builder_in es cell) ≡ claims_on es cell
named-is [] cell few = refl
named-is (e ∷ es) cell few = dite (ℕ_discrete e.cell cell)
    (λ same.
    let one = one_if-eq e.cell cell same in
    let rest = none_on es cell (omega arith) in
    let is = eq-eqb e.cell cell same in
    let left : builder_in (e ∷ es) cell ≡ Some e.number =
    ap (λ o. or_earlier o (cond (eqb e.cell cell) (Some e.number) None)) rest.1 ∙ ap (λ b. cond b (Some e.number) None) is in
    let right : claims_on (e ∷ es) cell ≡ e ∷ [] =
    ap (λ b. cond b (e ∷ claims_on es cell) (claims_on es cell)) is ∙ ap (λ xs. e ∷ xs) rest.0 in
    let whole : (record { cell = cell; number = e.number }) ≡ e = ap {B = Claimed} (λ (c : ℕ). record { cell = c; number = e.number }) (sym same) in
    ap (named cell) left ∙ (ap (λ (x : Claimed). x ∷ []) whole ∙ sym right))
    (λ other.
    let none = one_if-other e.cell cell other in
    let is = ne_eqb e.cell cell other in
    let left : builder_in (e ∷ es) cell ≡ builder_in es cell =
    ap (λ b. or_earlier (builder_in es cell) (cond b (Some e.number) None)) is ∙ or_earlier-none (builder_in es cell) in
    let right : claims_on (e ∷ es) cell ≡ claims_on es cell = ap (λ b. cond b (e ∷ claims_on es cell) (claims_on es cell)) is in
    ap (named cell) left ∙ (named-is es cell (omega arith) ∙ sym right))

pub named_below-is : (builders : List (Option ℕ)) (claims : List Claimed) (n : ℕ) → IsNoted builders claims → n ≤ length builders
    → ((cell : ℕ) → cell < n → claims_in cell claims ≤ 1) → named_below builders n ≡ claims_below claims n
named_below-is builders claims zero noted small few = refl
named_below-is builders claims (suc n) noted small few =
    ap (λ es. es ++ named n (get_or builders n None)) (named_below-is builders claims n noted (omega arith) (λ c k. few c (omega arith)))
    ∙ ap (λ es. claims_below claims n ++ es) (ap (named n) (noted n (omega arith)) ∙ named-is claims n (few n (omega arith)))

-- what holds of each claim holds of those below a cell
pub All-claims_below : (P : Claimed → Type 0) (claims : List Claimed) (n : ℕ) → All P claims → All P (claims_below claims n)
All-claims_below P claims zero each = All-nil P
All-claims_below P claims (suc n) each =
    All-append P (claims_below claims n) (claims_on claims n) (All-claims_below P claims n each)
    (All-filter (λ e. eqb e.cell n) P claims each)

-- a cell with a claim is among the cells of the claims
pub claimed_cell : (seen : List ℕ) (es : List Claimed) (cell : ℕ) → All (λ e. Contains seen e.cell) es → 1 ≤ claims_in cell es → Contains seen cell
claimed_cell seen [] cell each some_of = absurd (omega arith)
claimed_cell seen (e ∷ es) cell each some_of = dite (ℕ_discrete e.cell cell)
    (λ same. subst (Contains seen) same (All-head (λ (x : Claimed). Contains seen x.cell) e es each))
    (λ other.
    let none = one_if-other e.cell cell other in
    claimed_cell seen es cell (All-tail (λ (x : Claimed). Contains seen x.cell) e es each) (omega arith))

pub Contains-head : (x : ℕ) (xs : List ℕ) → Contains (x ∷ xs) x
Contains-head x xs = (0, omega arith, refl)

pub Contains-later : (y : ℕ) (xs : List ℕ) (x : ℕ) → Contains xs x → Contains (y ∷ xs) x
Contains-later y xs x c = (suc c.0, (let h = c.1 in omega arith), c.2)

pub Contains-cases : (y : ℕ) (xs : List ℕ) (x : ℕ) → Contains (y ∷ xs) x → (y ≡ x) ⊎ Contains xs x
Contains-cases y xs x (zero, inside, is) = inl is
Contains-cases y xs x (suc k, inside, is) = inr (k, omega arith, is)
