-- A pass over a list meets what is asked of a pass that is swept.
--     few_places, amounts_of_lines, groups_of_lines     what is asked
--     pass_ends                                         the end is forced
--     last_pass_reaches                                 the last pass reaches it
--     pass_blind                                        only adjdemerits sees the class of the line before
use Rattle.std.proofs.Common.{◌≡◌, ℕ, ◌+◌, ◌≤◌, ◌^◌, refl, ap, sym, ◌∙◌, subst, cond, Bool, true, false, length, Some, None, IsSome, ℤ, pos, ◌+ℤ◌, ◌≤ℤ◌, unsigned_abs, arith}
use Rattle.std.specs.Ordering.{int_eq}
use Rattle.micro_num.specs.Shape.{open_group, last_special}
use Rattle.line_break.specs.declared.node.Node.{Node}
use Rattle.line_break.specs.Best.{best, end_of}
use Rattle.line_break.specs.Laws.{IsAlmostBlind, IsEnded}
use Rattle.line_break.proofs.Reaching.{reaches}
use Rattle.break_sweep.specs.Costs.{IsAmount}
use Rattle.break_rule.specs.declared.line.LineFit.{LineFit}
use Rattle.break_rule.specs.Fits.{Rule}
use Rattle.break_rule.specs.Places.{eject}
use Rattle.break_pass.specs.Demerits.{demerits_of, AreSmall}
use Rattle.break_pass.specs.LegalPlaces.{place_of, kind_at}
use Rattle.break_pass.specs.Passes.{fit_at, demerits_after, demerits_at, pass_of}
use Rattle.break_pass.proofs.DemeritLaws.{demerits_near, demerits_alike}
use Rattle.break_pass.proofs.PlaceLaws.{few_legal, penalty_small, last_place}

pub few_places : (rule : Rule) (threshold : ℤ) (final : Bool) → length rule.items ≤ 65536 → end_of (pass_of rule threshold final) ≤ 2 ^ 17
unfolding pass_of
few_places rule threshold final short = let few = few_legal rule in omega (arith, few, short)

pub amounts_of_lines : (rule : Rule) (threshold : ℤ) (final : Bool) (x : Node) (to : ℕ) → AreSmall rule.params
    → IsAmount ((pass_of rule threshold final).demerits x to)
unfolding pass_of demerits_at
amounts_of_lines rule threshold final x to small =
    let fit : LineFit = fit_at rule x.place x.group to in
    demerits_near rule.params (kind_at rule x.place) x.class fit.badness fit.class (place_of rule to).penalty (place_of rule to).kind
    small (penalty_small rule to)

pub groups_of_lines : (rule : Rule) (threshold : ℤ) (final : Bool) → (pass_of rule threshold final).open_ended ≡ Some 0 → ⊥
unfolding pass_of open_group
groups_of_lines rule threshold final e = by (int_eq rule.params.looseness (pos 0)) e
  where
    by : (strict : Bool) → cond strict (Some (last_special rule.params rule.shape + 1)) None ≡ Some 0 → ⊥
    by true e = grind (arith, e)
    by false e = grind (arith, e)

pub pass_ends : (rule : Rule) (threshold : ℤ) (final : Bool) → IsEnded (pass_of rule threshold final)
unfolding pass_of
pass_ends rule threshold final = ap (λ (p : ℤ). int_eq p eject) (last_place rule)

pub last_pass_reaches : (rule : Rule) (threshold : ℤ) → IsSome (best (pass_of rule threshold true))
unfolding pass_of
last_pass_reaches rule threshold =
    let b = reaches (pass_of rule threshold true) refl (pass_ends rule threshold true) in subst IsSome (sym b.1) refl

pub pass_blind : (rule : Rule) (threshold : ℤ) (final : Bool) → IsAlmostBlind (pass_of rule threshold final)
unfolding pass_of demerits_at
pass_blind rule threshold final x y to place group =
    let fit : LineFit = fit_at rule x.place x.group to in
    let same : fit ≡ fit_at rule y.place y.group to =
    ap (λ k. fit_at rule k x.group to) place ∙ ap (λ k. fit_at rule y.place k to) group in
    subst (λ (other : LineFit). demerits_after rule x to fit ≤ℤ (demerits_after rule y to other +ℤ pos (unsigned_abs rule.params.adjdemerits))) same
    (subst (λ (k : ℕ). demerits_after rule x to fit
    ≤ℤ (demerits_of rule.params (kind_at rule k) y.class fit.badness fit.class (place_of rule to).penalty (place_of rule to).kind +ℤ pos (unsigned_abs rule.params.adjdemerits))) place
    (demerits_alike rule.params (kind_at rule x.place) x.class y.class fit.badness fit.class (place_of rule to).penalty (place_of rule to).kind))
