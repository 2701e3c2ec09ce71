-- What is kept is what two scans of the list and its legal places give.
use Rattle.std.proofs.Common.{◌≡◌, ℕ, ◌+◌, ◌≤◌, refl, ap, sym, ◌∙◌, subst, arith, List, length, map}
use Rattle.std.specs.List.{range_with_len, All}
use Rattle.micro_num.specs.declared.params.Params.{Params}
use Rattle.hlist.specs.declared.item.Item.{Item}
use Rattle.hlist.specs.Bounds.{unbroken_count}
use Rattle.break_rule.specs.declared.line.From.TheVariants.{Start, After}
use Rattle.break_rule.specs.declared.sums.Sums.{Sums}
use Rattle.break_rule.specs.Adding.{plus, sums_of_glue}
use Rattle.break_rule.specs.Fits.{shared_expansion}
use Rattle.break_rule.specs.Kept.{IsWithin, opening_of, closing_of, rank_of}
use Rattle.break_rule.specs.Places.{legal_of}
use Rattle.break_rule.proofs.Totals.{plus-within}
use Rattle.break_rule.proofs.ScanLaws.{length_count}
use Rattle.break_rule.proofs.Lookups.{places_within}
use Rattle.break_rule.proofs.rule.BreakRule.make.Goals as goal

short-of : (items all : List Item) → items ≡ all → unbroken_count all ≤ 65536 → length items ≤ 65536
short-of items all same few =
    let long = length_count all in
    let alike : length items ≡ length all = ap (λ (own : List Item). length own) same in
    omega (arith, few, long, alike)

in-list : (params : Params) (items : List Item) (places legal : List ℕ) → places ≡ legal → legal ≡ legal_of params items
    → All (λ place. place ≤ length items) places
in-list params items places legal same all =
    subst (All (λ place. place ≤ length items)) (sym (same ∙ all)) (places_within params items)

pub places_of-requires : goal.places_of-requires
places_of-requires c = omega (arith, short-of _ _ c.as_slice-items.ensures c.requires.list.few)

pub scan_list-requires-clause-short : goal.scan_list-requires-clause-short
scan_list-requires-clause-short c = short-of _ _ c.as_slice-items.ensures c.requires.list.few

pub openings-requires-clause-short : goal.openings-requires-clause-short
openings-requires-clause-short c = short-of _ _ c.as_slice-items.ensures c.requires.list.few

pub closings-requires-clause-short : goal.closings-requires-clause-short
closings-requires-clause-short c = short-of _ _ c.as_slice-items.ensures c.requires.list.few

pub start-start-requires-clause-short : goal.start-start-requires-clause-short
start-start-requires-clause-short c = short-of _ _ c.as_slice-items.ensures c.requires.list.few

pub openings-requires-clause-places : goal.openings-requires-clause-places
openings-requires-clause-places c =
    in-list c.args.params.now c.as_slice-items.result.now _ _ c.as_slice.ensures.value c.in_ok-places.ensures.legal

pub closings-requires-clause-places : goal.closings-requires-clause-places
closings-requires-clause-places c =
    in-list c.args.params.now c.as_slice-items.result.now _ _ c.as_slice-2.ensures.value c.in_ok-places.ensures.legal

pub invariant_of-result : goal.invariant_of-result
invariant_of-result c =
    let params = c.args.params.now in
    let stock = c.args.stock.now in
    let items = c.as_slice-items.result.now in
    let same : items ≡ c.args.list.now.items = c.as_slice-items.ensures in
    let legal : c.in_ok-places.places.legal.items ≡ legal_of params items = c.in_ok-places.ensures.legal in
    record {
      over = c.requires.over;
      breaks = c.requires.list.short;
      few = c.requires.list.few;
      short = short-of c.args.list.now.items _ refl c.requires.list.few;
      hsize = c.requires.hsize;
      hangindent = c.requires.hangindent;
      expand = c.shared_expansion.ensures ∙ ap (λ (own : List Item). shared_expansion stock own) same;
      margins = c.plus-margins.ensures
          ∙ ap (λ (left : Sums). plus left c.of_glue-2.result) c.of_glue.ensures.exact
          ∙ ap (λ (right : Sums). plus (sums_of_glue params.leftskip) right) c.of_glue-2.ensures.exact;
      margins_small = subst (λ (sums : Sums). IsWithin 2 sums) (sym c.plus-margins.ensures)
          (plus-within 1 1 c.of_glue.result c.of_glue-2.result c.of_glue.ensures.small c.of_glue-2.ensures.small);
      legal = legal ∙ ap (λ (own : List Item). legal_of params own) same;
      ranks = c.in_ok-places.ensures.ranks
          ∙ ap (λ (own : List Item). map (rank_of params own) (range_with_len 0 (length own + 1))) same;
      start = c.start-start.ensures.exact ∙ ap (λ (own : List Item). opening_of stock own Start) same;
      start_small = c.start-start.ensures.small;
      openings = c.in_ok-openings.ensures.exact
          ∙ ap (λ (places : List ℕ). map (λ at. opening_of stock items (After at)) places) (c.as_slice.ensures.value ∙ legal)
          ∙ ap (λ (own : List Item). map (λ at. opening_of stock own (After at)) (legal_of params own)) same;
      openings_small = c.in_ok-openings.ensures.small;
      closings = c.in_ok-closings.ensures.exact
          ∙ ap (λ (places : List ℕ). map (closing_of params stock items) places) (c.as_slice-2.ensures.value ∙ legal)
          ∙ ap (λ (own : List Item). map (closing_of params stock own) (legal_of params own)) same;
      closings_small = c.in_ok-closings.ensures.small;
    }
