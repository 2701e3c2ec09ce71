-- One of the passes that are tried is always taken.
--     behind-others           a pass is taken where one of the last passes is
--     late-taken              over a hyphenated list one is, as the last pass always is
--     some-taken              so one is of all
use Rattle.std.proofs.Common.{◌≡◌, ℕ, ℤ, true, refl, sym, subst, List, [], ◌∷◌, ◌++◌, Option, Some, None, IsSome}
use Rattle.micro_num.specs.declared.params.Params.{Params}
use Rattle.micro_num.specs.declared.shape.ShapeLine.{ShapeLine}
use Rattle.font_stock.specs.declared.font.Font.{Font}
use Rattle.hlist.specs.declared.item.Item.{Item}
use Rattle.line_break.specs.Pass.{Pass}
use Rattle.line_break.specs.Taken.{Taken, first_taken}
use Rattle.paragraph_breaks.specs.Passes.{Paragraph, at_most_infinite, early_passes, hyphenated_of, late_passes, late_taken, passes_of, rule_over, second_pass}
use Rattle.paragraph_breaks.proofs.PassSteps.{last_gives, late_second, late_third}
use Rattle.paragraph_breaks.proofs.TakenPasses.{first_among, none_among}
use Rattle.job_breaks.specs.Lines.{taken_of}

behind-others : (l : ℤ) (ps qs : List (ℕ × Pass)) → IsSome (first_taken l qs) → IsSome (first_taken l (ps ++ qs))
behind-others l ps qs some = either (first_taken l ps) refl
  where
    either : (o : Option Taken) → first_taken l ps ≡ o → IsSome (first_taken l (ps ++ qs))
    either None is = subst (λ (t : Option Taken). IsSome t) (none_among l ps qs (sym is)) some
    either (Some x) is = subst (λ (t : Option Taken). IsSome t) (first_among l ps qs x (sym is)) refl

late-taken : (items : List Item) (params : Params) (shape : List ShapeLine) (stock : List Font) → IsSome (late_taken items params shape stock)
late-taken items params shape stock = either (first_taken params.looseness ((2, second_pass items params shape stock) ∷ [])) refl
  where
    either : (o : Option Taken) → first_taken params.looseness ((2, second_pass items params shape stock) ∷ []) ≡ o
        → IsSome (late_taken items params shape stock)
    either (Some x) is = subst (λ (t : Option Taken). IsSome t) (late_second items params shape stock x (sym is)) refl
    either None is =
        subst (λ (t : Option Taken). IsSome t) (late_third items params shape stock (sym is))
        (last_gives (rule_over items params shape stock true) (at_most_infinite params.tolerance) 3)

pub some-taken : (p : Paragraph) → IsSome (taken_of p)
unfolding passes_of
some-taken p =
    behind-others p.params.looseness (early_passes p.items p.params p.shape p.stock) (late_passes (hyphenated_of p) p.params p.shape p.stock)
    (late-taken (hyphenated_of p) p.params p.shape p.stock)
