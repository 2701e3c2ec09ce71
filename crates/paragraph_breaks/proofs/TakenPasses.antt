-- The pass that is taken, and what it gives.
--     none_of                what isn't something is nothing
--     pass_single            at a looseness other than 0 each line is a group of its own
--     pass_final             whether it is the last pass
--     given                  what a pass gives with a way
--     best_taken             at looseness 0 a pass is taken, with the best way
--     among-way              the way of a pass is one of those that reach the end
--     taken_none, taken_some     what one pass gives, by its way
--     taken_among                its way is one of those that reach the end
--     final_gives                a last pass gives a way
--     first_of, no_first         a pass before others
--     early_first, none_early    the passes over the list as it stands before the others
use Rattle.std.proofs.Common.{◌≡◌, ◌≢◌, ℕ, ◌+◌, refl, ap, sym, subst, cond, Bool, true, false, ◌||◌, ◌==◌, List, [], ◌∷◌, ◌++◌, Option, Some, None, IsSome, ℤ, pos, arith}
use Rattle.std.specs.Ordering.{int_eq}
use Rattle.std.proofs.lemmas.Int.{ints}
use Rattle.micro_num.specs.Shape.{open_group, last_special}
use Rattle.line_break.specs.declared.node.Way.{Way}
use Rattle.line_break.specs.Best.{best, best_of_group, to_the_end}
use Rattle.line_break.specs.Laws.{IsEnded, IsSingle}
use Rattle.line_break.specs.Members.{Among}
use Rattle.line_break.specs.Pass.{Pass}
use Rattle.line_break.specs.Taken.{Taken, actual_looseness, best_with, breaks_of, first_taken, is_taken, reaches, taken_or, way_of}
use Rattle.line_break.proofs.MemberLemmas.{Among-passes}
use Rattle.line_break.proofs.BestWays.{best_is, best_of_group_is}
use Rattle.line_break.proofs.Loosening.{way_found}
use Rattle.line_break.proofs.Reaching.{reaches as end_reached}
use Rattle.break_rule.specs.Fits.{Rule}
use Rattle.break_pass.specs.Passes.{pass_of}
use Rattle.paragraph_breaks.specs.Passes.{taken_way}

pub none_of : {X : Type 0} (o : Option X) → ((x : X) → o ≡ Some x → ⊥) → o ≡ None
none_of None other = refl
none_of (Some x) other = absurd (other x refl)

-- at a looseness other than 0 each line is a group of its own
pub pass_single : (rule : Rule) (threshold : ℤ) (final : Bool) → rule.params.looseness ≢ pos 0 → IsSingle (pass_of rule threshold final)
unfolding pass_of open_group
pass_single rule threshold final other = by (int_eq rule.params.looseness (pos 0)) refl
  where
    by : (zero : Bool) → int_eq rule.params.looseness (pos 0) ≡ zero → cond zero (Some (last_special rule.params rule.shape + 1)) None ≡ None
    by true e = absurd (other (grind (arith, ints, e)))
    by false e = refl

pub pass_final : (rule : Rule) (threshold : ℤ) (final : Bool) → (pass_of rule threshold final).final ≡ final
unfolding pass_of
pass_final rule threshold final = refl

abbrev pub given : ℕ → Pass → Way → Taken
given number q w = record { number = number; breaks = breaks_of q w; total = w.total }

pub taken_none : (q : Pass) (l : ℤ) (number : ℕ) → None ≡ taken_way q l → None ≡ first_taken l ((number, q) ∷ [])
unfolding taken_way first_taken
taken_none q l number none = by (is_taken q l) (way_of q l) none
  where
    by : (t : Bool) (w : Option Way) → None ≡ cond t w None → None ≡ taken_or t number q w None
    by true None none = refl
    by true (Some w) none = absurd (cc)
    by false w none = refl

pub taken_some : (q : Pass) (l : ℤ) (number : ℕ) (w : Way) → Some w ≡ taken_way q l → Some (given number q w) ≡ first_taken l ((number, q) ∷ [])
unfolding taken_way first_taken
taken_some q l number w some = by (is_taken q l) (way_of q l) some
  where
    by : (t : Bool) (o : Option Way) → Some w ≡ cond t o None → Some (given number q w) ≡ taken_or t number q o None
    by true None some = absurd (cc)
    by true (Some v) some = let same : w ≡ v = cc in ap (λ (x : Way). Some (given number q x)) same
    by false o some = absurd (cc)

module _ (q : Pass) where
  among-with : (o : Option Way) (d : Option ℤ) (w : Way) → best_with q o d ≡ Some w → Among (to_the_end q) w
  among-with None d w is = absurd (cc)
  among-with (Some b) None w is = absurd (cc)
  among-with (Some b) (Some d) w is = among-group _ w is
    where
      among-group : (group : ℕ) (w : Way) → best_of_group q group ≡ Some w → Among (to_the_end q) w
      among-group group w is = (Among-passes (λ v. v.last.group == group) (to_the_end q) w (best_of_group_is q group w is).within).0

  -- at looseness 0 a pass is taken, with the best way
  pub best_taken : (l : ℤ) → int_eq l (pos 0) ≡ true → best q ≡ taken_way q l
  unfolding taken_way is_taken way_of
  best_taken l is =
      ap (λ (t : Bool). cond (t || reaches l (actual_looseness q l) || q.final) (cond t (best q) (best_with q (best q) (actual_looseness q l))) None) (sym is)

  pub among-way : (l : ℤ) (w : Way) → way_of q l ≡ Some w → Among (to_the_end q) w
  unfolding way_of
  among-way l w is = by (int_eq l (pos 0)) is
    where
      by : (zero : Bool) → cond zero (best q) (best_with q (best q) (actual_looseness q l)) ≡ Some w → Among (to_the_end q) w
      by true is = (best_is q w is).within
      by false is = among-with (best q) (actual_looseness q l) w is

  pub taken_among : (l : ℤ) (w : Way) → Some w ≡ taken_way q l → Among (to_the_end q) w
  unfolding taken_way
  taken_among l w some = by (is_taken q l) some
    where
      by : (t : Bool) → Some w ≡ cond t (way_of q l) None → Among (to_the_end q) w
      by true some = among-way l w (sym some)
      by false some = absurd (cc)

  way-given : IsEnded q → (l : ℤ) → (l ≢ pos 0 → IsSingle q) → q.final ≡ true → (b : Way) × (way_of q l ≡ Some b)
  unfolding way_of
  way-given ended l single final = by (int_eq l (pos 0)) refl
    where
      by : (zero : Bool) → int_eq l (pos 0) ≡ zero
          → (b : Way) × (cond zero (best q) (best_with q (best q) (actual_looseness q l)) ≡ Some b)
      by true e = end_reached q final ended
      by false e =
          let other : l ≢ pos 0 = λ is. absurd (grind (arith, ints)) in
          let found = way_found q ended (single other) final l in
          (found.0, subst (λ (zero : Bool). cond zero (best q) (best_with q (best q) (actual_looseness q l)) ≡ Some found.0) e found.1)

  -- a last pass is taken, and gives a way
  pub final_gives : IsEnded q → (l : ℤ) → (l ≢ pos 0 → IsSingle q) → q.final ≡ true → (number : ℕ)
      → IsSome (first_taken l ((number, q) ∷ []))
  unfolding first_taken is_taken
  final_gives ended l single final number =
      let found = way-given ended l single final in
      by (int_eq l (pos 0)) (reaches l (actual_looseness q l)) q.final final (way_of q l) found.0 found.1
    where
      by : (zero near last : Bool) → last ≡ true → (o : Option Way) (b : Way) → o ≡ Some b
          → IsSome (taken_or (zero || near || last) number q o None)
      by zero near false is o b some = absurd (cc)
      by true near true is None b some = absurd (cc)
      by true near true is (Some w) b some = refl
      by false true true is None b some = absurd (cc)
      by false true true is (Some w) b some = refl
      by false false true is None b some = absurd (cc)
      by false false true is (Some w) b some = refl

-- what the first passes give goes before what others give
pub first_among : (l : ℤ) (ps qs : List (ℕ × Pass)) (x : Taken) → Some x ≡ first_taken l ps → Some x ≡ first_taken l (ps ++ qs)
unfolding first_taken
first_among l [] qs x some = absurd (cc)
first_among l (p ∷ ps) qs x some = by (is_taken p.1 l) (way_of p.1 l) (first_among l ps qs x) some
  where
    by : (t : Bool) (o : Option Way) → (Some x ≡ first_taken l ps → Some x ≡ first_taken l (ps ++ qs))
        → Some x ≡ taken_or t p.0 p.1 o (first_taken l ps) → Some x ≡ taken_or t p.0 p.1 o (first_taken l (ps ++ qs))
    by true (Some w) more some = some
    by true None more some = more some
    by false o more some = more some

pub none_among : (l : ℤ) (ps qs : List (ℕ × Pass)) → None ≡ first_taken l ps → first_taken l qs ≡ first_taken l (ps ++ qs)
unfolding first_taken
none_among l [] qs none = refl
none_among l (p ∷ ps) qs none = by (is_taken p.1 l) (way_of p.1 l) (none_among l ps qs) none
  where
    by : (t : Bool) (o : Option Way) → (None ≡ first_taken l ps → first_taken l qs ≡ first_taken l (ps ++ qs))
        → None ≡ taken_or t p.0 p.1 o (first_taken l ps) → first_taken l qs ≡ taken_or t p.0 p.1 o (first_taken l (ps ++ qs))
    by true (Some w) more none = absurd (cc)
    by true None more none = more none
    by false o more none = more none
