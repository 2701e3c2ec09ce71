use Rattle.std.proofs.Common.{◌+◌, ◌%◌, ◌<◌, ◌&&◌, ◌++◌, ◌∷◌, [], ℕ, Bool, leb, eqb, get_or, ap, ◌∙◌, sym, subst}
use Rattle.std.specs.List.{All}
use Rattle.std.specs.List.Sorted.{IsStrictlyIncreasing}
use Rattle.liang_hyph.proofs.PlaceLemmas.{filter-range_taken, filter-range_left, filter-range_ascends, filter-range_inside}
use Rattle.liang_hyph.proofs.values.odd_places.Goals as goal
use Rattle.liang_hyph.proofs.values.odd_places.Goals.{then-allows_break+in_ok-push, else-allows_break}

pub loop-h-preserved : goal.loop-h-preserved
loop-h-preserved c =
    let test : ℕ → Bool = λ h. leb c.clamp_margin-before.result h && leb (h + c.clamp_margin-after.result) c.args.len && eqb (get_or c.args.values.now h 0 % 2) 1 in
    elim c.if-allows_break.branch [
      | then-allows_break+in_ok-push w ↦
          ap (λ v. v.items) w.places-is ∙ w.in_ok-push.ensures.items ∙ ap (λ places. places ++ c.loop-h.h ∷ []) c.loop-h.invariant
          ∙ sym (filter-range_taken test c.loop-h.h (sym c.allows_break.ensures ∙ w.if-allows_break.true))
      | else-allows_break w ↦
          ap (λ v. v.items) w.places-is ∙ c.loop-h.invariant ∙ sym (filter-range_left test c.loop-h.h (sym c.allows_break.ensures ∙ w.if-allows_break.false))
    ]

pub returns-clause-ascends : goal.returns-clause-ascends
returns-clause-ascends c = subst IsStrictlyIncreasing (sym c.loop-h.invariant) (filter-range_ascends _ c.loop-h.h)

pub returns-clause-inside : goal.returns-clause-inside
returns-clause-inside c =
    subst (All (λ h. (0 < h) × (h < c.args.len))) (sym c.loop-h.invariant)
    (filter-range_inside c.clamp_margin-before.result c.clamp_margin-after.result c.args.len c.loop-h.h (λ h. eqb (get_or c.args.values.now h 0 % 2) 1) c.clamp_margin-before.ensures.low c.clamp_margin-after.ensures.low)
