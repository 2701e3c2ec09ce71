-- Each turn asks one place more, and its rank is how many legal places there are so far.
use Rattle.std.proofs.Common.{◌≡◌, ℕ, ◌+◌, ap, sym, ◌∙◌, arith, List, [], ◌∷◌, ◌++◌, map, length, Vec, Global}
use Rattle.std.specs.Prelude.{true, false}
use Rattle.std.specs.List.{range_with_len}
use Rattle.std.proofs.lemmas.List.{length_push}
use Rattle.break_rule.specs.Places.{is_place}
use Rattle.break_rule.specs.Kept.{rank_of}
use Rattle.break_rule.proofs.RangeSteps.{filter_takes, filter_leaves, map_step}
use Rattle.break_rule.proofs.places.places_of.Goals as goal
use Rattle.break_rule.proofs.places.places_of.Goals.{then-is_place+in_ok-push-2, else-is_place}

pub loop-place-preserved : goal.loop-place-preserved
unfolding rank_of
loop-place-preserved c =
    let params = c.args.params.now in
    let items = c.args.items.now in
    let place = c.loop-place.place in
    let legal = c.loop-place.legal.items in
    let count : c.len.result ≡ length legal = omega (arith, c.len.ensures) in
    let rank : c.len.result ≡ rank_of params items place = count ∙ ap (λ (front : List ℕ). length front) c.loop-place.invariant.legal in
    let ranks : c.push.new.self.items ≡ map (rank_of params items) (range_with_len 0 (place + 1))
    = c.in_ok-push.ensures.items
    ∙ ap (λ (front : List ℕ). front ++ c.len.result ∷ []) c.loop-place.invariant.ranks
    ∙ ap (λ (own : ℕ). map (rank_of params items) (range_with_len 0 place) ++ own ∷ []) rank
    ∙ sym (map_step (rank_of params items) place) in
    elim c.if-is_place.branch [
      | then-is_place+in_ok-push-2 w ↦
          let passes : is_place params items place ≡ true = sym c.is_place.ensures ∙ w.if-is_place.true in
          let more : c.if-is_place.legal.items ≡ legal ++ place ∷ []
          = ap (λ (own : Vec ℕ Global). own.items) w.legal-is ∙ w.in_ok-push-2.ensures.items in
          let long : length c.if-is_place.legal.items ≡ length legal + 1
          = ap (λ (own : List ℕ). length own) more ∙ length_push legal place in
          record {
            legal = filter_takes (is_place params items) place legal _ c.loop-place.invariant.legal passes more;
            few = omega (arith, long, c.loop-place.invariant.few);
            ranks = ranks;
          }
      | else-is_place w ↦
          let fails : is_place params items place ≡ false = sym c.is_place.ensures ∙ w.if-is_place.false in
          let same : c.if-is_place.legal.items ≡ legal = ap (λ (own : Vec ℕ Global). own.items) w.legal-is in
          let long : length c.if-is_place.legal.items ≡ length legal = ap (λ (own : List ℕ). length own) same in
          record {
            legal = same ∙ filter_leaves (is_place params items) place legal c.loop-place.invariant.legal fails;
            few = omega (arith, long, c.loop-place.invariant.few);
            ranks = ranks;
          }
    ]
