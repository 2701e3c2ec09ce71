use Rattle.std.proofs.Common.{◌≡◌, ◌-◌, ◌++◌, [], ◌∷◌, length, sym, ap, ◌∙◌, append-nil, arith, true, false, not, None, Some, FitsSigned, w32, w64, rules}
use Rattle.std.proofs.lemmas.Int.{to_z-of_z, fits_signed_from_abs}
use Rattle.std.specs.List.{last_or, position_from, slice_get}
use Rattle.std.specs.Option.{option_copied}
use Rattle.std.specs.Vec.Iter.{into_iter_items}
use Rattle.dvi_write.specs.Stacking.{stacked, is_stackable, on_baseline, next_baseline}
use Rattle.dvi_write.proofs.StackedLines.{stacked-step, AllByRecursion-push, past-none, past-first, stacked-count, nothing_left, last_or-slice, place_fits, both_true}
use Rattle.dvi_write.proofs.stacking.stacked.Goals as goal

pub loop-line-preserved : goal.loop-line-preserved
loop-line-preserved c =
    let steps : into_iter_items c.loop-line.line-iterator ≡ c.in-Some.line ∷ into_iter_items c.next.new.self = c.in-Some.ensures.steps.0 in
    let above : option_copied c.last.result ≡ last_or None c.loop-line.placed.items =
    c.last.ensures.value ∙ ap (λ xs. slice_get xs (length xs - 1)) c.as_slice.ensures.value ∙ sym (last_or-slice c.loop-line.placed.items) in
    let baseline : c.next_baseline-baseline.result ≡ next_baseline c.args.params.now (last_or None c.loop-line.placed.items) c.in-Some.line =
    c.next_baseline-baseline.ensures.exact ∙ ap (λ o. next_baseline c.args.params.now o c.in-Some.line) above in
    let fits64 : FitsSigned w64 c.next_baseline-baseline.result = fits_signed_from_abs w64 c.next_baseline-baseline.result (omega (arith, c.next_baseline-baseline.ensures.near)) in
    let fits_depth : FitsSigned w32 c.in-Some.line.depth = search rules in
    let tested = simp to_z-of_z at c.is_stackable.ensures in
    let passes : is_stackable (record { baseline = c.next_baseline-baseline.result; line = c.in-Some.line }) ≡ true = sym tested ∙ c.if-not-is_stackable.false in
    let small = place_fits c.next_baseline-baseline.result (both_true _ _ passes).0 in
    let fits32 : FitsSigned w32 c.next_baseline-baseline.result = fits_signed_from_abs w32 c.next_baseline-baseline.result (omega (arith, small)) in
    let pushed = simp to_z-of_z at c.in_ok-push.ensures.items in
    rw pushed (record {
      rest =
          stacked-step c.args.params.now c.loop-line.placed.items c.in-Some.line (into_iter_items c.next.new.self) (record { baseline = c.next_baseline-baseline.result; line = c.in-Some.line })
          (λ i. record { baseline = baseline i; line = c.in-Some.line })
          ∙ ap (λ rest. c.loop-line.placed.items ++ stacked c.args.params.now (last_or None c.loop-line.placed.items) rest) (sym steps)
          ∙ c.loop-line.invariant.rest;
      fits = AllByRecursion-push (λ placed. is_stackable placed ≡ true) c.loop-line.placed.items _ c.loop-line.invariant.fits passes;
      count = omega (arith, c.loop-line.invariant.count, c.in-Some.ensures.steps.1, ap length steps);
    })

pub overflow_cast-result : goal.overflow_cast-result
overflow_cast-result c =
    let steps : into_iter_items c.loop-line.line-iterator ≡ c.in-Some.line ∷ into_iter_items c.next.new.self = c.in-Some.ensures.steps.0 in
    let count = stacked-count c.args.params.now c.loop-line.placed.items (last_or None c.loop-line.placed.items) (into_iter_items c.loop-line.line-iterator) _ c.args.lines.items c.loop-line.invariant.rest c.into_iter-line-iterator.ensures.into_iter_gives.0 in
    omega (arith, count, ap length steps, c.len-then-not-is_stackable.ensures, c.loop-line.placed.ok, c.requires)

pub overflow_add-result : goal.overflow_add-result
overflow_add-result c =
    let steps : into_iter_items c.loop-line.line-iterator ≡ c.in-Some.line ∷ into_iter_items c.next.new.self = c.in-Some.ensures.steps.0 in
    let count = stacked-count c.args.params.now c.loop-line.placed.items (last_or None c.loop-line.placed.items) (into_iter_items c.loop-line.line-iterator) _ c.args.lines.items c.loop-line.invariant.rest c.into_iter-line-iterator.ensures.into_iter_gives.0 in
    omega (arith, count, ap length steps, c.len-then-not-is_stackable.ensures, c.loop-line.placed.ok, c.requires)

pub returns-then-not-is_stackable : goal.returns-then-not-is_stackable
returns-then-not-is_stackable c =
    let steps : into_iter_items c.loop-line.line-iterator ≡ c.in-Some.line ∷ into_iter_items c.next.new.self = c.in-Some.ensures.steps.0 in
    let above : option_copied c.last.result ≡ last_or None c.loop-line.placed.items =
    c.last.ensures.value ∙ ap (λ xs. slice_get xs (length xs - 1)) c.as_slice.ensures.value ∙ sym (last_or-slice c.loop-line.placed.items) in
    let baseline : c.next_baseline-baseline.result ≡ next_baseline c.args.params.now (last_or None c.loop-line.placed.items) c.in-Some.line =
    c.next_baseline-baseline.ensures.exact ∙ ap (λ o. next_baseline c.args.params.now o c.in-Some.line) above in
    let fits64 : FitsSigned w64 c.next_baseline-baseline.result = fits_signed_from_abs w64 c.next_baseline-baseline.result (omega (arith, c.next_baseline-baseline.ensures.near)) in
    let fits_depth : FitsSigned w32 c.in-Some.line.depth = search rules in
    let tested = simp to_z-of_z at c.is_stackable.ensures in
    let fails : is_stackable (record { baseline = c.next_baseline-baseline.result; line = c.in-Some.line }) ≡ false = sym tested ∙ c.if-not-is_stackable.true in
    let all : stacked c.args.params.now None c.args.lines.items
    ≡ c.loop-line.placed.items ++ record { baseline = c.next_baseline-baseline.result; line = c.in-Some.line } ∷ stacked c.args.params.now (Some (on_baseline c.args.params.now (last_or None c.loop-line.placed.items) c.in-Some.line)) (into_iter_items c.next.new.self) =
    sym (ap (stacked c.args.params.now None) c.into_iter-line-iterator.ensures.into_iter_gives.0) ∙ sym c.loop-line.invariant.rest
    ∙ ap (λ rest. c.loop-line.placed.items ++ stacked c.args.params.now (last_or None c.loop-line.placed.items) rest) steps
    ∙ (λ i. c.loop-line.placed.items ++ record { baseline = sym baseline i; line = c.in-Some.line } ∷ stacked c.args.params.now (Some (on_baseline c.args.params.now (last_or None c.loop-line.placed.items) c.in-Some.line)) (into_iter_items c.next.new.self)) in
    ap (λ ls. position_from (λ p. not (is_stackable p)) 1 ls) all
    ∙ past-first c.loop-line.placed.items _ _ 1 c.loop-line.invariant.fits fails
    ∙ ap Some (omega (arith, c.len-then-not-is_stackable.ensures, c.loop-line.placed.ok))

pub returns : goal.returns
returns c =
    let none = c.in-None.ensures.steps in
    let empty : into_iter_items c.loop-line.line-iterator ≡ [] = nothing_left _ (sym c.loop-line.invariant.count ∙ none.0) in
    let whole : c.loop-line.placed.items ≡ stacked c.args.params.now None c.args.lines.items =
    sym (append-nil c.loop-line.placed.items)
    ∙ ap (λ rest. c.loop-line.placed.items ++ stacked c.args.params.now (last_or None c.loop-line.placed.items) rest) (sym empty)
    ∙ c.loop-line.invariant.rest ∙ ap (stacked c.args.params.now None) c.into_iter-line-iterator.ensures.into_iter_gives.0 in
    (whole, c.loop-line.invariant.fits, ap (λ ls. position_from (λ p. not (is_stackable p)) 1 ls) (sym whole) ∙ past-none c.loop-line.placed.items 1 c.loop-line.invariant.fits)
