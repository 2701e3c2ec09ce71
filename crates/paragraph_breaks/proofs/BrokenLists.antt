-- A paragraph's list as its passes break it.
--     early_broken, late_broken    by a pass over the list as it stands, or over the hyphenated one
use Rattle.std.proofs.Common.{◌≡◌, ℕ, ap, sym, ◌∙◌, cond, Bool, true, false, List, [], ◌∷◌, ◌==◌, Some, None, pos, int_le, int_lt, inl, inr}
use Rattle.hlist.specs.declared.item.HList.{HList}
use Rattle.hlist.specs.declared.item.Item.{Item}
use Rattle.hlist_hyph.specs.Hyphenated.{hyphenated_items}
use Rattle.line_break.specs.Members.{Among}
use Rattle.line_break.specs.Pass.{Pass}
use Rattle.line_break.specs.Taken.{Taken, first_taken}
use Rattle.paragraph_breaks.specs.declared.broken.Breaks.{Breaks}
use Rattle.paragraph_breaks.specs.declared.broken.Broken.{Broken}
use Rattle.paragraph_breaks.specs.Outcome.{IsBroken, broken_as}
use Rattle.paragraph_breaks.specs.Passes.{IsFirstTaken, Paragraph, early_passes, early_taken, first_pass, hyphenated_of, items_of, late_passes, late_taken, passes_of, taken_by, third_pass}
use Rattle.paragraph_breaks.proofs.LeastTotals.{least_total, line_ends, taken_from}
use Rattle.paragraph_breaks.proofs.TakenPasses.{first_among, none_among}

pub whole : (p : Paragraph) (b : Broken) → IsFirstTaken p b → IsBroken p b
whole p b taken = record { exact = taken; ends = line_ends p b taken; least = least_total p b taken }

-- the numbers of the passes
module _ (p : Paragraph) where
  early_are_first : (x : ℕ × Pass) → Among (early_passes p.items p.params p.shape p.stock) x → (x.0 == 1) ≡ true
  early_are_first x m = by (int_lt p.params.pretolerance (pos 0)) m
    where
      by : (none : Bool) → Among (cond none [] ((1, first_pass p.items p.params p.shape p.stock) ∷ [])) x → (x.0 == 1) ≡ true
      by true m = absurd m
      by false (inl same) = ap (λ (y : ℕ × Pass). y.0 == 1) same
      by false (inr m) = absurd m

  late_are_others : (items : List Item) (x : ℕ × Pass) → Among (late_passes items p.params p.shape p.stock) x → (x.0 == 1) ≡ false
  late_are_others items x (inl same) = ap (λ (y : ℕ × Pass). y.0 == 1) same
  late_are_others items x (inr m) = by (int_le p.params.emergencystretch (pos 0)) m
    where
      by : (last : Bool) → Among (cond last [] ((3, third_pass items p.params p.shape p.stock) ∷ [])) x → (x.0 == 1) ≡ false
      by true m = absurd m
      by false (inl same) = ap (λ (y : ℕ × Pass). y.0 == 1) same
      by false (inr m) = absurd m

  items_with : (first : Bool) (number : ℕ) → (number == 1) ≡ first → items_of p number ≡ cond first p.items (hyphenated_of p)
  unfolding items_of
  items_with first number is = ap (λ (t : Bool). cond t p.items (hyphenated_of p)) is

  number-of : (first : Bool) (ps : List (ℕ × Pass)) (x : Taken) → ((y : ℕ × Pass) → Among ps y → (y.0 == 1) ≡ first)
      → Some x ≡ first_taken p.params.looseness ps → (x.number == 1) ≡ first
  number-of first ps x all some =
      let t = taken_from p.params.looseness ps x (sym some) in
      ap (λ (y : Taken). y.number == 1) t.gives ∙ all (t.number, t.pass) t.within

  pub early_broken : (list : HList) (b : Breaks) → list.items ≡ p.items → Some (taken_by b) ≡ early_taken p.items p.params p.shape p.stock
      → IsBroken p (broken_as list b)
  unfolding passes_of
  early_broken list b own some =
      let early = early_passes p.items p.params p.shape p.stock in
      let late = late_passes (hyphenated_of p) p.params p.shape p.stock in
      let first = number-of true early (taken_by b) early_are_first some in
      whole p (broken_as list b) (record {
        list = own ∙ sym (items_with true b.pass first);
        taken = sym (first_among p.params.looseness early late (taken_by b) some);
      })

  hyphenated_is : (items : List Item) → items ≡ hyphenated_items p.tables p.stock p.places p.items → items ≡ hyphenated_of p
  unfolding hyphenated_of
  hyphenated_is items is = is

  pub late_broken : (list : HList) (b : Breaks)
      → list.items ≡ hyphenated_items p.tables p.stock p.places p.items → None ≡ early_taken p.items p.params p.shape p.stock
      → Some (taken_by b) ≡ late_taken list.items p.params p.shape p.stock → IsBroken p (broken_as list b)
  unfolding passes_of
  late_broken list b made none some =
      let own = hyphenated_is list.items made in
      let early = early_passes p.items p.params p.shape p.stock in
      let late = late_passes (hyphenated_of p) p.params p.shape p.stock in
      let other = number-of false (late_passes list.items p.params p.shape p.stock) (taken_by b) (late_are_others list.items) some in
      whole p (broken_as list b) (record {
        list = own ∙ sym (items_with false b.pass other);
        taken =
            sym (some
            ∙ ap (λ (items : List Item). late_taken items p.params p.shape p.stock) own
            ∙ none_among p.params.looseness early late none);
      })
