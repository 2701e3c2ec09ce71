-- What is kept of a legal place, read by its rank.
--     ranks_long, closings_long, openings_long    how much is kept
--     closing_kept, opening_kept                  what is read, and how large it is
use Rattle.std.proofs.Common.{◌≡◌, ℕ, ◌+◌, ◌<◌, ◌≤◌, ap, sym, ◌∙◌, subst, arith, List, length, get_or}
use Rattle.std.specs.Prelude.{slice_get, Some}
use Rattle.std.proofs.lemmas.Option.{slice_get_within, get_or_from_slice_get}
use Rattle.std.proofs.lemmas.List.FromFn.{length-map-range_with_len, get_or-map-range_with_len}
use Rattle.break_rule.specs.declared.line.From.TheVariants.{After}
use Rattle.break_rule.specs.declared.ends.Opening.{Opening}
use Rattle.break_rule.specs.declared.ends.Closing.{Closing}
use Rattle.break_rule.specs.Fits.{Rule}
use Rattle.break_rule.specs.Kept.{IsSmallOpening, IsSmallClosing, opening_of, closing_of, rank_of}
use Rattle.break_rule.specs.Made.{IsPlace, IsMade, Keeping}
use Rattle.break_rule.proofs.Lookups.{opening_found, closing_found}

own-place : (rule now : Rule) (place : ℕ) → rule ≡ now → IsPlace now place → IsPlace rule place
own-place rule now place same is = subst (λ (r : Rule). IsPlace r place) (sym same) is

rank-read : (rule : Rule) (kept : Keeping) → IsMade rule kept → (place rank : ℕ) → IsPlace rule place → rank ≡ get_or kept.ranks place rank
    → rank ≡ rank_of rule.params rule.items place
rank-read rule kept made place rank is read =
    let within : place ≤ length rule.items = is.within in
    let same : 0 + place ≡ place = omega arith in
    let below : place < length rule.items + 1 = omega (arith, within) in
    read
    ∙ ap (λ (ranks : List ℕ). get_or ranks place rank) made.ranks
    ∙ get_or-map-range_with_len (rank_of rule.params rule.items) 0 (length rule.items + 1) place place rank below same

pub ranks_long : (rule now : Rule) (kept : Keeping) → IsMade rule kept → rule ≡ now → (place : ℕ) → IsPlace now place → place < length kept.ranks
ranks_long rule now kept made same place is =
    let own : IsPlace rule place = own-place rule now place same is in
    let within : place ≤ length rule.items = own.within in
    let count : length kept.ranks ≡ length rule.items + 1
    = ap length made.ranks ∙ length-map-range_with_len (rank_of rule.params rule.items) 0 (length rule.items + 1) in
    omega (arith, within, count)

-- with the place of the rule that the list was scanned for
closing-there : (rule : Rule) (kept : Keeping) → IsMade rule kept → (place rank : ℕ) → IsPlace rule place → rank ≡ get_or kept.ranks place rank
    → slice_get kept.closings rank ≡ Some (closing_of rule.params rule.stock rule.items place)
closing-there rule kept made place rank is read =
    ap (slice_get kept.closings) (rank-read rule kept made place rank is read)
    ∙ ap (λ (closings : List Closing). slice_get closings (rank_of rule.params rule.items place)) made.closings
    ∙ closing_found rule place is

opening-there : (rule : Rule) (kept : Keeping) → IsMade rule kept → (place rank : ℕ) → IsPlace rule place → rank ≡ get_or kept.ranks place rank
    → slice_get kept.openings rank ≡ Some (opening_of rule.stock rule.items (After place))
opening-there rule kept made place rank is read =
    ap (slice_get kept.openings) (rank-read rule kept made place rank is read)
    ∙ ap (λ (openings : List Opening). slice_get openings (rank_of rule.params rule.items place)) made.openings
    ∙ opening_found rule place is

pub closings_long : (rule now : Rule) (kept : Keeping) → IsMade rule kept → rule ≡ now → (place rank : ℕ) → IsPlace now place
    → rank ≡ get_or kept.ranks place rank → rank < length kept.closings
closings_long rule now kept made same place rank is read =
    slice_get_within kept.closings rank (closing_of rule.params rule.stock rule.items place)
    (closing-there rule kept made place rank (own-place rule now place same is) read)

pub openings_long : (rule now : Rule) (kept : Keeping) → IsMade rule kept → rule ≡ now → (place rank : ℕ) → IsPlace now place
    → rank ≡ get_or kept.ranks place rank → rank < length kept.openings
openings_long rule now kept made same place rank is read =
    slice_get_within kept.openings rank (opening_of rule.stock rule.items (After place))
    (opening-there rule kept made place rank (own-place rule now place same is) read)

pub closing_kept : (rule now : Rule) (kept : Keeping) → IsMade rule kept → rule ≡ now → (place rank : ℕ) (closing : Closing) → IsPlace now place
    → rank ≡ get_or kept.ranks place rank → closing ≡ get_or kept.closings rank closing
    → (closing ≡ closing_of now.params now.stock now.items place) × IsSmallClosing closing
closing_kept rule now kept made same place rank closing is read got =
    let there = closing-there rule kept made place rank (own-place rule now place same is) read in
    let own : closing ≡ closing_of rule.params rule.stock rule.items place
    = got ∙ get_or_from_slice_get kept.closings rank (closing_of rule.params rule.stock rule.items place) closing there in
    let below : rank < length kept.closings = closings_long rule now kept made same place rank is read in (
      own ∙ ap (λ (r : Rule). closing_of r.params r.stock r.items place) same,
      subst (λ (c : Closing). IsSmallClosing c) (sym got) (made.closings_small rank closing below),
    )

pub opening_kept : (rule now : Rule) (kept : Keeping) → IsMade rule kept → rule ≡ now → (place rank : ℕ) (opening : Opening) → IsPlace now place
    → rank ≡ get_or kept.ranks place rank → opening ≡ get_or kept.openings rank opening
    → (opening ≡ opening_of now.stock now.items (After place)) × IsSmallOpening opening
opening_kept rule now kept made same place rank opening is read got =
    let there = opening-there rule kept made place rank (own-place rule now place same is) read in
    let own : opening ≡ opening_of rule.stock rule.items (After place)
    = got ∙ get_or_from_slice_get kept.openings rank (opening_of rule.stock rule.items (After place)) opening there in
    let below : rank < length kept.openings = openings_long rule now kept made same place rank is read in (
      own ∙ ap (λ (r : Rule). opening_of r.stock r.items (After place)) same,
      subst (λ (o : Opening). IsSmallOpening o) (sym got) (made.openings_small rank opening below),
    )
