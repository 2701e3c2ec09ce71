use Rattle.std.proofs.Common.{◌≡◌, ℕ, Bool, ◌∙◌, ◌<◌, ◌≤◌, ◌-◌, ap, sym, subst, ℤ, List, All, Option, length, map, w32, w64, to_z, of_z, FitsSigned, rules}
use Rattle.std.specs.Prelude.{slice_index}
use Rattle.std.proofs.lemmas.Int.{to_z-of_z}
use Rattle.paragraph_breaks.specs.Passes.{taken_way}
use Rattle.line_break.specs.declared.node.Way.{Way}
use Rattle.line_break.specs.Taken.{places_of}
use Rattle.break_rule.specs.Fits.{Rule}
use Rattle.break_pass.specs.Passes.{pass_of}
use Rattle.paragraph_breaks.proofs.PassSteps.{places_legal, way_given}
use Rattle.paragraph_breaks.proofs.TakenPasses.{taken_none}
use Rattle.paragraph_breaks.proofs.pass.breaks_of_pass.Goals as goal

way-is : (rule : Rule) (given t : ℤ) (last : Bool) (o : Option Way) → given ≡ t → o ≡ taken_way (pass_of rule given last) rule.params.looseness
    → o ≡ taken_way (pass_of rule t last) rule.params.looseness
way-is rule given t last o same is = is ∙ ap (λ (x : ℤ). taken_way (pass_of rule x last) rule.params.looseness) same

pub break_places-requires : goal.break_places-requires
break_places-requires c =
    let rule = c.args.rule.now in
    let t = c.args.threshold in
    let taken = way-is rule (to_z w32 (of_z w32 t)) t c.args.last c.in_ok-taken_way.field-0 (to_z-of_z w32 t c.ranges.threshold) c.in_ok-taken_way.ensures in
    subst (λ (legal : List ℕ). All (λ place. (0 < place) × (place ≤ length legal)) (places_of c.in-Some.way)) (sym c.legal.ensures.exact)
    (places_legal rule t c.args.last rule.params.looseness c.in-Some.way (sym c.in-Some.is ∙ taken))

pub returns-in-None : goal.returns-in-None
returns-in-None c =
    let rule = c.args.rule.now in
    let t = c.args.threshold in
    let taken = way-is rule (to_z w32 (of_z w32 t)) t c.args.last c.in_ok-taken_way.field-0 (to_z-of_z w32 t c.ranges.threshold) c.in_ok-taken_way.ensures in
    taken_none (pass_of rule t c.args.last) rule.params.looseness c.args.number (sym c.in-None.is ∙ taken)

pub returns-in_ok-break_places-in-Some : goal.returns-in_ok-break_places-in-Some
returns-in_ok-break_places-in-Some c =
    let rule = c.args.rule.now in
    let t = c.args.threshold in
    let way = c.in-Some.way in
    let taken = way-is rule (to_z w32 (of_z w32 t)) t c.args.last c.in_ok-taken_way.field-0 (to_z-of_z w32 t c.ranges.threshold) c.in_ok-taken_way.ensures in
    let places = c.in_ok-break_places-in-Some.ensures ∙ ap (λ (legal : List ℕ). map (λ place. slice_index legal (place - 1)) (places_of way)) c.legal.ensures.exact in
    let total = to_z w64 (of_z w64 way.total) in
    let fits : FitsSigned w64 way.total = search rules in
    way_given rule t c.args.last rule.params.looseness way (record { pass = c.args.number; places = c.in_ok-break_places-in-Some.field-0; total = total })
    (sym c.in-Some.is ∙ taken) places (to_z-of_z w64 way.total fits)
