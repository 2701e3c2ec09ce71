use Rattle.std.proofs.Common.{◌≡◌, ◌∙◌, refl, ap, false, eqb, get_or, length, sym, arith}
use Rattle.std.proofs.lemmas.List.{get_or-replicate, length-set}
use Rattle.std.proofs.lemmas.Bool.{ne_eqb, cond-false}
use Rattle.liang_hyph.proofs.PlaceLemmas.{listed-more, get_or-set_one}
use Rattle.liang_hyph.proofs.values.odd_at.Goals as goal
use Rattle.liang_hyph.proofs.values.odd_at.Goals.{then-place-lt-PLACES, else-place-lt-PLACES}

pub loop-place-init : goal.loop-place-init
loop-place-init c = (refl, λ h l. get_or-replicate 64 h 0 0 l)

pub loop-place-preserved : goal.loop-place-preserved
loop-place-preserved c =
    let long = c.loop-place.invariant.0 in (
      elim c.if-place-lt-PLACES.branch [
        | then-place-lt-PLACES w ↦ ap length w.values-is ∙ length-set c.loop-place.values c.from-place.result 1 ∙ long
        | else-place-lt-PLACES w ↦ ap length w.values-is ∙ long
      ],
      λ h l.
          listed-more c.loop-place.values c.if-place-lt-PLACES.values c.args.places.now c.loop-place.place-index c.from-place.result h
          c.loop-place-test.true c.from-place.ensures (c.loop-place.invariant.1 h l)
          (elim c.if-place-lt-PLACES.branch [
            | then-place-lt-PLACES w ↦
                (let within = w.if-place-lt-PLACES.true in
                ap (λ vs. get_or vs h 0) w.values-is ∙ get_or-set_one c.loop-place.values c.from-place.result h (omega arith))
            | else-place-lt-PLACES w ↦
                (let past = w.if-place-lt-PLACES.false in
                let apart : eqb c.from-place.result h ≡ false = ne_eqb _ _ (λ e. absurd (omega arith)) in
                ap (λ vs. get_or vs h 0) w.values-is ∙ sym (cond-false _ _ _ apart))
          ]),
    )
