-- What is kept of a legal place is found by its rank.
--     place_found             the place itself
--     opening_found           what a line takes from it behind a break
--     closing_found           and where it ends there
--     places_within           legal places are in the list, or its end
--     all_places              the list of legal places has no others
use Rattle.std.proofs.Common.{◌≡◌, ℕ, ◌+◌, ◌<◌, ◌≤◌, ap, ◌∙◌, subst, arith, List, length, map, get_or}
use Rattle.std.specs.Prelude.{slice_get, option_map, Some}
use Rattle.std.specs.List.{range_with_len, All}
use Rattle.std.proofs.lemmas.Option.{slice_get-map}
use Rattle.std.proofs.lemmas.List.Elements.{All-filter, filter_passes}
use Rattle.std.proofs.lemmas.List.FromFn.{length-range_with_len, get_or-range_with_len}
use Rattle.micro_num.specs.declared.params.Params.{Params}
use Rattle.hlist.specs.declared.item.Item.{Item}
use Rattle.break_rule.specs.declared.line.From.TheVariants.{After}
use Rattle.break_rule.specs.Places.{is_place, legal_of}
use Rattle.break_rule.specs.Fits.{Rule}
use Rattle.break_rule.specs.Made.{IsPlace}
use Rattle.break_rule.specs.Kept.{rank_of, opening_of, closing_of}
use Rattle.break_rule.proofs.Ranks.{place-at-rank}

pub place_found : (rule : Rule) (place : ℕ) → IsPlace rule place
    → slice_get (legal_of rule.params rule.items) (rank_of rule.params rule.items place) ≡ Some place
unfolding legal_of rank_of
place_found rule place is =
    let within : place ≤ length rule.items = is.within in
    place-at-rank (is_place rule.params rule.items) (length rule.items + 1) place (omega (arith, within)) is.ends

pub opening_found : (rule : Rule) (place : ℕ) → IsPlace rule place
    → slice_get (map (λ at. opening_of rule.stock rule.items (After at)) (legal_of rule.params rule.items)) (rank_of rule.params rule.items place)
    ≡ Some (opening_of rule.stock rule.items (After place))
opening_found rule place is =
    slice_get-map (λ at. opening_of rule.stock rule.items (After at)) (legal_of rule.params rule.items) (rank_of rule.params rule.items place)
    ∙ ap (option_map (λ at. opening_of rule.stock rule.items (After at))) (place_found rule place is)

pub closing_found : (rule : Rule) (place : ℕ) → IsPlace rule place
    → slice_get (map (closing_of rule.params rule.stock rule.items) (legal_of rule.params rule.items)) (rank_of rule.params rule.items place)
    ≡ Some (closing_of rule.params rule.stock rule.items place)
closing_found rule place is =
    slice_get-map (closing_of rule.params rule.stock rule.items) (legal_of rule.params rule.items) (rank_of rule.params rule.items place)
    ∙ ap (option_map (closing_of rule.params rule.stock rule.items)) (place_found rule place is)

in-range : (n : ℕ) → All (λ x. x ≤ n) (range_with_len 0 (n + 1))
in-range n k d within =
    let below : k < n + 1 = subst (λ count. k < count) (length-range_with_len 0 (n + 1)) within in
    let is : get_or (range_with_len 0 (n + 1)) k d ≡ 0 + k = get_or-range_with_len 0 (n + 1) k d below in
    omega (arith, is, below)

pub places_within : (params : Params) (items : List Item) → All (λ place. place ≤ length items) (legal_of params items)
unfolding legal_of
places_within params items =
    All-filter (is_place params items) (λ place. place ≤ length items) (range_with_len 0 (length items + 1)) (in-range (length items))

pub all_places : (rule : Rule) → All (IsPlace rule) (legal_of rule.params rule.items)
unfolding legal_of
all_places rule k d within = record {
  within = places_within rule.params rule.items k d within;
  ends = filter_passes (is_place rule.params rule.items) (range_with_len 0 (length rule.items + 1)) k d within;
}
