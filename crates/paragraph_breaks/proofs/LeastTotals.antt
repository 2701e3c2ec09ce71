-- What is known of the pass that is taken.
--     taken_from             it is one of those tried, and its way is the one that it gives
--     passes_are             those tried are passes over the list of their number
--     least_total            no way to the end has a lower total than the one that is taken
--     line_ends              its places are legal, strictly ascending, the last of them the end
use Rattle.std.proofs.Common.{◌≡◌, ◌≢◌, ℕ, refl, ap, sym, ◌∙◌, subst, cond, Bool, true, false, List, [], ◌∷◌, length, Option, Some, None, ℤ, pos, int_le, int_lt, ◌≤ℤ◌, ◌⊎◌, inl, inr, ⊎_elim, arith}
use Rattle.std.specs.Ordering.{int_eq}
use Rattle.std.proofs.lemmas.Int.{ints}
use Rattle.line_break.specs.declared.node.Way.{Way}
use Rattle.line_break.specs.Best.{best, to_the_end}
use Rattle.line_break.specs.Laws.{IsEnded, IsSingle}
use Rattle.line_break.specs.Members.{Among}
use Rattle.line_break.specs.Pass.{Pass}
use Rattle.line_break.specs.Taken.{Taken, actual_looseness, best_with, breaks_of, first_taken, is_taken, line_count, taken_or, way_of}
use Rattle.line_break.proofs.BestWays.{best_is}
use Rattle.line_break.proofs.Loosening.{as_many_lines}
use Rattle.line_break.proofs.MemberLemmas.{Among-append_cases}
use Rattle.break_rule.specs.Fits.{Rule}
use Rattle.break_rule.specs.Places.{legal_of}
use Rattle.break_pass.specs.Passes.{pass_of}
use Rattle.break_pass.proofs.PassLaws.{pass_ends}
use Rattle.paragraph_breaks.specs.declared.broken.Broken.{Broken}
use Rattle.paragraph_breaks.specs.Outcome.{AreLineEnds, HasLeastTotal, rule_of}
use Rattle.paragraph_breaks.specs.Passes.{IsFirstTaken, Paragraph, early_passes, first_pass, hyphenated_of, items_of, late_passes, passes_of, second_pass, third_pass}
use Rattle.paragraph_breaks.proofs.LineEnds.{breaks_length, way_ends}
use Rattle.paragraph_breaks.proofs.TakenPasses.{among-way, given, pass_single}

-- what is taken of some passes
pub record IsTakenOf (l : ℤ) (ps : List (ℕ × Pass)) (x : Taken) : Type 0 where
  pub number : ℕ
  pub pass : Pass
  pub within : Among ps (number, pass)
  pub way : Way
  pub is : way_of pass l ≡ Some way
  pub gives : x ≡ given number pass way

later : (l : ℤ) (p : ℕ × Pass) (ps : List (ℕ × Pass)) (x : Taken) → IsTakenOf l ps x → IsTakenOf l (p ∷ ps) x
later l p ps x t = record { number = t.number; pass = t.pass; within = inr t.within; way = t.way; is = t.is; gives = t.gives }

pub taken_from : (l : ℤ) (ps : List (ℕ × Pass)) (x : Taken) → first_taken l ps ≡ Some x → IsTakenOf l ps x
unfolding first_taken
taken_from l [] x is = absurd (cc)
taken_from l (p ∷ ps) x is = by (is_taken p.1 l) (way_of p.1 l) refl (taken_from l ps x) is
  where
    by : (t : Bool) (o : Option Way) → way_of p.1 l ≡ o → (first_taken l ps ≡ Some x → IsTakenOf l ps x)
        → taken_or t p.0 p.1 o (first_taken l ps) ≡ Some x → IsTakenOf l (p ∷ ps) x
    by true (Some w) e more is =
        let same : x ≡ given p.0 p.1 w = cc in
        record { number = p.0; pass = p.1; within = inl refl; way = w; is = e; gives = same }
    by true None e more is = later l p ps x (more is)
    by false o e more is = later l p ps x (more is)

-- a pass over the list of its number
record IsPassOver (p : Paragraph) (number : ℕ) (q : Pass) : Type 0 where
  pub ended : IsEnded q
  pub single : p.params.looseness ≢ pos 0 → IsSingle q
  pub legal : q.legal ≡ legal_of p.params (items_of p number)

over : (p : Paragraph) (number : ℕ) (rule : Rule) (threshold : ℤ) (final : Bool) → rule.params ≡ p.params → rule.items ≡ items_of p number
    → IsPassOver p number (pass_of rule threshold final)
unfolding pass_of
over p number rule threshold final params items = record {
  ended = pass_ends rule threshold final;
  single = λ other. pass_single rule threshold final (subst (λ ps. ps.looseness ≢ pos 0) (sym params) other);
  legal = ap (λ ps. legal_of ps rule.items) params ∙ ap (legal_of p.params) items;
}

only : (p : Paragraph) (x y : ℕ × Pass) → y ≡ x → IsPassOver p x.0 x.1 → IsPassOver p y.0 y.1
only p x y same is = subst (λ (z : ℕ × Pass). IsPassOver p z.0 z.1) (sym same) is

early_are : (p : Paragraph) (x : ℕ × Pass) → Among (early_passes p.items p.params p.shape p.stock) x → IsPassOver p x.0 x.1
unfolding items_of
early_are p x m = by (int_lt p.params.pretolerance (pos 0)) m
  where
    by : (none : Bool) → Among (cond none [] ((1, first_pass p.items p.params p.shape p.stock) ∷ [])) x → IsPassOver p x.0 x.1
    by true m = absurd m
    by false (inl same) = only p (1, first_pass p.items p.params p.shape p.stock) x same (over p 1 _ _ _ refl refl)
    by false (inr m) = absurd m

late_are : (p : Paragraph) (x : ℕ × Pass) → Among (late_passes (hyphenated_of p) p.params p.shape p.stock) x → IsPassOver p x.0 x.1
unfolding items_of
late_are p x (inl same) = only p (2, second_pass (hyphenated_of p) p.params p.shape p.stock) x same (over p 2 _ _ _ refl refl)
late_are p x (inr m) = by (int_le p.params.emergencystretch (pos 0)) m
  where
    by : (last : Bool) → Among (cond last [] ((3, third_pass (hyphenated_of p) p.params p.shape p.stock) ∷ [])) x → IsPassOver p x.0 x.1
    by true m = absurd m
    by false (inl same) = only p (3, third_pass (hyphenated_of p) p.params p.shape p.stock) x same (over p 3 _ _ _ refl refl)
    by false (inr m) = absurd m

passes_are : (p : Paragraph) (x : ℕ × Pass) → Among (passes_of p) x → IsPassOver p x.0 x.1
unfolding passes_of
passes_are p x m =
    ⊎_elim (early_are p x) (late_are p x)
    (Among-append_cases (early_passes p.items p.params p.shape p.stock) (late_passes (hyphenated_of p) p.params p.shape p.stock) x m)

-- No way of a pass has a lower total than the one that it gives, or, where each line is a group of its own, none that
-- has as many lines.
module _ (q : Pass) (ended : IsEnded q) (l : ℤ) (single : l ≢ pos 0 → IsSingle q) (b : Way) (is : way_of q l ≡ Some b) where
  least_of : (w : Way) → Among (to_the_end q) w → (l ≡ pos 0) ⊎ (line_count w ≡ line_count b) → b.total ≤ℤ w.total
  unfolding way_of
  least_of w m cause = by (int_eq l (pos 0)) refl is
    where
      by : (zero : Bool) → int_eq l (pos 0) ≡ zero → cond zero (best q) (best_with q (best q) (actual_looseness q l)) ≡ Some b → b.total ≤ℤ w.total
      by true e first = (best_is q b first).least w m
      by false e loose =
          let other : l ≢ pos 0 = λ same. absurd (grind (arith, ints, e, same)) in
          ⊎_elim (λ (same : l ≡ pos 0). absurd (other same)) (λ (lines : line_count w ≡ line_count b). as_many_lines q ended (single other) l b w is m lines) cause

module _ (p : Paragraph) (b : Broken) (taken : IsFirstTaken p b) where
  pub least_total : HasLeastTotal p b
  least_total =
      let t = taken_from p.params.looseness (passes_of p) _ taken.taken in
      let over = passes_are p (t.number, t.pass) t.within in
      let number : b.pass ≡ t.number = ap (λ (x : Taken). x.number) t.gives in
      let places : b.breaks ≡ breaks_of t.pass t.way = ap (λ (x : Taken). x.breaks) t.gives in
      let total : b.total ≡ t.way.total = ap (λ (x : Taken). x.total) t.gives in
      let lines : length b.breaks ≡ line_count t.way = ap length places ∙ breaks_length t.pass t.way in
      record {
        pass = t.pass;
        is_tried = subst (λ (n : ℕ). Among (passes_of p) (n, t.pass)) (sym number) t.within;
        way = t.way;
        reaches = among-way t.pass p.params.looseness t.way t.is;
        breaks = places;
        total = total;
        least = λ w m cause.
            subst (λ (d : ℤ). d ≤ℤ w.total) (sym total)
            (least_of t.pass over.ended p.params.looseness over.single t.way t.is w m (⊎_elim (λ zero. inl zero) (λ as_many. inr (as_many ∙ lines)) cause));
      }

  pub line_ends : AreLineEnds (rule_of p b) b.breaks
  line_ends =
      let t = taken_from p.params.looseness (passes_of p) _ taken.taken in
      let over = passes_are p (t.number, t.pass) t.within in
      let number : b.pass ≡ t.number = ap (λ (x : Taken). x.number) t.gives in
      let places : b.breaks ≡ breaks_of t.pass t.way = ap (λ (x : Taken). x.breaks) t.gives in
      let own : t.pass.legal ≡ legal_of p.params b.list.items =
      over.legal ∙ ap (λ (n : ℕ). legal_of p.params (items_of p n)) (sym number) ∙ ap (legal_of p.params) (sym taken.list) in
      subst (AreLineEnds (rule_of p b)) (sym places)
      (way_ends t.pass over.ended t.way (among-way t.pass p.params.looseness t.way t.is) (rule_of p b) own)
