-- From one pass to the next.
--     way_given              what a pass gives with a way, as places of its list
--     places_legal           the places of a way that is taken are among the legal ones
--     last_gives             the last pass gives something
--     calm_rule              a rule in which the emergency stretch doesn't count
--     no_early, one_early    the passes over a list as it stands
--     late_second, late_third    the passes over a hyphenated list
use Rattle.std.proofs.Common.{◌≡◌, ℕ, ◌-◌, ◌<◌, ◌≤◌, refl, ap, sym, ◌∙◌, cond, Bool, true, false, List, [], ◌∷◌, map, length, All, Option, Some, None, option_map, IsSome, ℤ, pos, int_le, int_lt, slice_index}
use Rattle.micro_num.specs.declared.params.Params.{Params}
use Rattle.micro_num.specs.declared.shape.ShapeLine.{ShapeLine}
use Rattle.font_stock.specs.declared.font.Font.{Font}
use Rattle.hlist.specs.declared.item.Item.{Item}
use Rattle.line_break.specs.declared.node.Way.{Way}
use Rattle.line_break.specs.Taken.{Taken, breaks_of, first_taken, places_of}
use Rattle.break_rule.specs.Fits.{Rule}
use Rattle.break_rule.specs.Places.{legal_of}
use Rattle.break_pass.specs.Passes.{pass_of}
use Rattle.break_pass.proofs.PassLaws.{pass_ends}
use Rattle.paragraph_breaks.specs.declared.broken.Breaks.{Breaks}
use Rattle.paragraph_breaks.specs.Passes.{at_most_infinite, early_taken, first_pass, late_taken, rule_over, second_pass, taken_by, taken_way, third_pass}
use Rattle.paragraph_breaks.proofs.TakenPasses.{final_gives, first_among, none_among, pass_final, pass_single, taken_among, taken_some}
use Rattle.paragraph_breaks.proofs.WayPlaces.{all_within}

pub calm_rule : (r : Rule) → r.emergency ≡ false → r ≡ rule_over r.items r.params r.shape r.stock false
calm_rule r calm =
    ap (λ (b : Bool). rule_over r.items r.params r.shape r.stock b) calm

module _ (rule : Rule) (threshold : ℤ) (final : Bool) where
  pub places_legal : (l : ℤ) (w : Way) → Some w ≡ taken_way (pass_of rule threshold final) l
      → All (λ place. (0 < place) × (place ≤ length (legal_of rule.params rule.items))) (places_of w)
  unfolding pass_of
  places_legal l w some =
      all_within (pass_of rule threshold final) (pass_ends rule threshold final) w (taken_among (pass_of rule threshold final) l w some)

  pub way_given : (l : ℤ) (w : Way) (b : Breaks) → Some w ≡ taken_way (pass_of rule threshold final) l
      → b.places ≡ map (λ place. slice_index (legal_of rule.params rule.items) (place - 1)) (places_of w) → b.total ≡ w.total
      → Some (taken_by b) ≡ first_taken l ((b.pass, pass_of rule threshold final) ∷ [])
  unfolding pass_of breaks_of
  way_given l w b some places total =
      ap (λ (bs : List ℕ). Some (record { number = b.pass; breaks = bs; total = b.total })) places
      ∙ ap (λ (t : ℤ). Some (record { number = b.pass; breaks = breaks_of (pass_of rule threshold final) w; total = t })) total
      ∙ taken_some (pass_of rule threshold final) l b.pass w some

some-of : (o : Option Breaks) (t : Option Taken) → option_map taken_by o ≡ t → IsSome t → IsSome o
some-of (Some b) t is some = refl
some-of None (Some x) is some = absurd (cc)
some-of None None is some = some

pub last_gives : (rule : Rule) (threshold : ℤ) (number : ℕ)
    → IsSome (first_taken rule.params.looseness ((number, pass_of rule threshold true) ∷ []))
last_gives rule threshold number =
    final_gives (pass_of rule threshold true) (pass_ends rule threshold true) rule.params.looseness
    (pass_single rule threshold true) (pass_final rule threshold true) number

not-both : (t : Option Taken) → None ≡ t → IsSome t → ⊥
not-both None none some = absurd (cc)
not-both (Some x) none some = absurd (cc)

pub last_some : (rule : Rule) (threshold : ℤ) (number : ℕ) (o : Option Breaks)
    → option_map taken_by o ≡ first_taken rule.params.looseness ((number, pass_of rule threshold true) ∷ []) → IsSome o
last_some rule threshold number o is = some-of o _ is (last_gives rule threshold number)

module _ (items : List Item) (params : Params) (shape : List ShapeLine) (stock : List Font) where
  pub no_early : int_lt params.pretolerance (pos 0) ≡ true → None ≡ early_taken items params shape stock
  unfolding first_taken
  no_early below =
      ap (λ (t : Bool). first_taken params.looseness (cond t [] ((1, first_pass items params shape stock) ∷ []))) (sym below)

  pub one_early : int_lt params.pretolerance (pos 0) ≡ false
      → first_taken params.looseness ((1, first_pass items params shape stock) ∷ []) ≡ early_taken items params shape stock
  one_early above =
      ap (λ (t : Bool). first_taken params.looseness (cond t [] ((1, first_pass items params shape stock) ∷ []))) (sym above)

  pub late_second : (x : Taken) → Some x ≡ first_taken params.looseness ((2, second_pass items params shape stock) ∷ [])
      → Some x ≡ late_taken items params shape stock
  late_second x some =
      first_among params.looseness ((2, second_pass items params shape stock) ∷ [])
      (cond (int_le params.emergencystretch (pos 0)) [] ((3, third_pass items params shape stock) ∷ [])) x some

  pub late_third : None ≡ first_taken params.looseness ((2, second_pass items params shape stock) ∷ [])
      → first_taken params.looseness ((3, third_pass items params shape stock) ∷ []) ≡ late_taken items params shape stock
  late_third none =
      by (int_le params.emergencystretch (pos 0)) refl
    where
      by : (last : Bool) → int_le params.emergencystretch (pos 0) ≡ last
          → first_taken params.looseness ((3, third_pass items params shape stock) ∷ [])
          ≡ first_taken params.looseness
          ((2, second_pass items params shape stock) ∷ cond last [] ((3, third_pass items params shape stock) ∷ []))
      by true e =
          let rule = rule_over items params shape stock false in
          let tolerance = at_most_infinite params.tolerance in
          let none_last : None ≡ first_taken params.looseness ((2, pass_of rule tolerance true) ∷ []) =
          none ∙ ap (λ (t : Bool). first_taken params.looseness ((2, pass_of rule tolerance t) ∷ [])) e in
          absurd (not-both _ none_last (last_gives rule tolerance 2))
      by false e =
          none_among params.looseness ((2, second_pass items params shape stock) ∷ []) ((3, third_pass items params shape stock) ∷ []) none
