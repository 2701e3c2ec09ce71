-- The legal places of a list by their numbers.
--     few_legal              there are no more of them than items and the end
--     legal_at               the place of a number is legal
--     place_penalty          its penalty is not great
--     count_of_places        as many are kept
--     place_read             what is read of them
--     last_place             the last one is the end, which forces a break
use Rattle.std.proofs.Common.{◌≡◌, ℕ, zero, suc, ◌+◌, ◌-◌, ◌≤◌, ◌<◌, ap, sym, ◌∙◌, subst, cond, Bool, true, List, [], ◌∷◌, ◌++◌, length, filter, get_or, slice_get, Option, Some, None, ℤ, unsigned_abs, int_lt, All, arith, ◌⊎◌, inl, inr, ⊎_elim}
use Rattle.std.specs.List.{range_with_len}
use Rattle.std.specs.Int.{int_max}
use Rattle.std.proofs.lemmas.Int.{ints, clamps}
use Rattle.std.proofs.lemmas.List.{get_or_past, get_or_read, get_or-map, length-map, length-append}
use Rattle.std.proofs.lemmas.List.Elements.{All-map}
use Rattle.std.proofs.lemmas.List.Sums.{length-filter, count_by-le-length}
use Rattle.std.proofs.lemmas.List.FromFn.{length-range_with_len}
use Rattle.std.proofs.lemmas.Option.{slice_get_past}
use Rattle.std.proofs.Math.Seq.{get_or-append_seam}
use Rattle.micro_num.specs.declared.params.Params.{Params}
use Rattle.hlist.specs.declared.item.Item.{Item}
use Rattle.hlist.specs.declared.item.Item.TheVariants.{Char, Lig, FontKern, Kern, Glue, Penalty, Disc, Box}
use Rattle.break_rule.specs.Fits.{Rule}
use Rattle.break_rule.specs.Made.{IsPlace}
use Rattle.break_rule.specs.Places.{eject, infinite, is_place, legal_of, penalty_of, penalty_at_item, disc_penalty, ends_line, item_before}
use Rattle.break_rule.proofs.Lookups.{all_places}
use Rattle.break_rule.proofs.RangeSteps.{filter_step}
use Rattle.break_pass.specs.declared.place.LegalPlace.{LegalPlace}
use Rattle.break_pass.specs.LegalPlaces.{place_at, places_of, place_of, no_place}

pub few_legal : (rule : Rule) → length (legal_of rule.params rule.items) ≤ length rule.items + 1
unfolding legal_of
few_legal rule =
    let numbers = range_with_len 0 (length rule.items + 1) in
    let p = is_place rule.params rule.items in
    let f = length-filter p numbers in
    let c = count_by-le-length p numbers in
    let n = length-range_with_len 0 (length rule.items + 1) in
    omega (arith, f, c, n)

cut_penalty : (value : ℤ) → int_lt value infinite ≡ true → unsigned_abs (int_max value eject) ≤ 10000
cut_penalty value h = grind (arith, ints, clamps, h)

small_penalty : (params : Params) (before here after : Option Item) → ends_line params before here after ≡ true
    → unsigned_abs (penalty_at_item params here) ≤ 10000
small_penalty params before None after h = omega arith
small_penalty params before (Some (Glue glue)) after h = omega arith
small_penalty params before (Some (Kern width)) after h = omega arith
small_penalty params before (Some (Penalty value)) after h = cut_penalty value h
small_penalty params before (Some (Disc lists)) after h = cut_penalty (disc_penalty params lists) h
small_penalty params before (Some (Char font code)) after h = omega arith
small_penalty params before (Some (Lig font code covers)) after h = omega arith
small_penalty params before (Some (FontKern width left)) after h = omega arith
small_penalty params before (Some (Box width)) after h = omega arith

pub place_penalty : (rule : Rule) (place : ℕ) → IsPlace rule place → unsigned_abs (penalty_of rule.params rule.items place) ≤ 10000
unfolding penalty_of is_place
place_penalty rule place is =
    small_penalty rule.params (item_before rule.items place) (slice_get rule.items place) (slice_get rule.items (place + 1)) is.ends

all_small : (rule : Rule) → All (λ p. unsigned_abs p.penalty ≤ 10000) (places_of rule.params rule.items)
unfolding places_of
all_small rule =
    All-map (λ p. unsigned_abs p.penalty ≤ 10000) (place_at rule.params rule.items) (legal_of rule.params rule.items)
    (λ k d within. place_penalty rule (get_or (legal_of rule.params rule.items) k d) (all_places rule k d within))

below_or_past : (k n : ℕ) → (k < n) ⊎ (n ≤ k)
below_or_past k zero = inr (omega arith)
below_or_past zero (suc n) = inl (omega arith)
below_or_past (suc k) (suc n) = ⊎_elim (λ below. inl (omega (arith, below))) (λ past. inr (omega (arith, past))) (below_or_past k n)

-- whatever number is asked for
pub penalty_small : (rule : Rule) (number : ℕ) → unsigned_abs (place_of rule number).penalty ≤ 10000
penalty_small rule number =
    ⊎_elim
    (λ within. all_small rule (number - 1) no_place within)
    (λ past. subst (λ (p : LegalPlace). unsigned_abs p.penalty ≤ 10000) (sym (get_or_past (places_of rule.params rule.items) (number - 1) no_place past)) (omega arith))
    (below_or_past (number - 1) (length (places_of rule.params rule.items)))

-- the number of the item at which it is
pub place_named : (rule : Rule) (number d : ℕ) → number - 1 < length (legal_of rule.params rule.items)
    → place_of rule number ≡ place_at rule.params rule.items (get_or (legal_of rule.params rule.items) (number - 1) d)
unfolding places_of
place_named rule number d within = get_or-map (place_at rule.params rule.items) (legal_of rule.params rule.items) (number - 1) d no_place within

pub legal_at : (rule : Rule) (number : ℕ) → number - 1 < length (legal_of rule.params rule.items) → IsPlace rule (place_of rule number).at
legal_at rule number within =
    subst (λ (p : LegalPlace). IsPlace rule p.at) (sym (place_named rule number 0 within)) (all_places rule (number - 1) 0 within)

end_is_place : (rule : Rule) → is_place rule.params rule.items (length rule.items) ≡ true
unfolding is_place
end_is_place rule =
    ap (λ (here : Option Item). ends_line rule.params (item_before rule.items (length rule.items)) here (slice_get rule.items (length rule.items + 1)))
    (slice_get_past rule.items (length rule.items) (omega arith))

legal_ends : (rule : Rule)
    → legal_of rule.params rule.items ≡ filter (is_place rule.params rule.items) (range_with_len 0 (length rule.items)) ++ length rule.items ∷ []
unfolding legal_of
legal_ends rule =
    filter_step (is_place rule.params rule.items) (length rule.items)
    ∙ ap (λ (ends : Bool). filter (is_place rule.params rule.items) (range_with_len 0 (length rule.items)) ++ cond ends (length rule.items ∷ []) [])
    (end_is_place rule)

pub last_place : (rule : Rule) → (place_of rule (length (legal_of rule.params rule.items))).penalty ≡ eject
unfolding penalty_of
last_place rule =
    let before = filter (is_place rule.params rule.items) (range_with_len 0 (length rule.items)) in
    let count : length (legal_of rule.params rule.items) ≡ length before + 1 =
    ap length (legal_ends rule) ∙ length-append before (length rule.items ∷ []) in
    let at : length (legal_of rule.params rule.items) - 1 ≡ length before = omega (arith, count) in
    let here : get_or (legal_of rule.params rule.items) (length (legal_of rule.params rule.items) - 1) 0 ≡ length rule.items =
    ap (λ (k : ℕ). get_or (legal_of rule.params rule.items) k 0) at
    ∙ ap (λ (xs : List ℕ). get_or xs (length before) 0) (legal_ends rule)
    ∙ get_or-append_seam before (length rule.items) [] 0 in
    ap (λ (p : LegalPlace). p.penalty) (place_named rule (length (legal_of rule.params rule.items)) 0 (omega (arith, count)))
    ∙ ap (λ (at : ℕ). penalty_of rule.params rule.items at) here
    ∙ ap (λ (item : Option Item). penalty_at_item rule.params item) (slice_get_past rule.items (length rule.items) (omega arith))

pub count_of_places : (rule : Rule) → length (places_of rule.params rule.items) ≡ length (legal_of rule.params rule.items)
unfolding places_of
count_of_places rule = length-map (legal_of rule.params rule.items) (place_at rule.params rule.items)

-- what is read of the places that are kept
pub place_read : (rule : Rule) (kept : List LegalPlace) (number : ℕ) (place : LegalPlace) → kept ≡ places_of rule.params rule.items
    → 0 < number → number ≤ length (legal_of rule.params rule.items) → place ≡ get_or kept (number - 1) place → place ≡ place_of rule number
place_read rule kept number place is above within read =
    let long : length kept ≡ length (legal_of rule.params rule.items) = ap length is ∙ count_of_places rule in
    get_or_read kept (number - 1) place (omega (arith, long, above, within)) read no_place
    ∙ ap (λ (places : List LegalPlace). get_or places (number - 1) no_place) is
