-- Each turn looks at one entry.
use Rattle.std.proofs.Common.{◌≡◌, refl, ap, sym, ◌∙◌, take}
use Rattle.std.specs.Prelude.{ℤ, slice_get, Option, Some}
use Rattle.std.specs.Option.{option_or}
use Rattle.std.proofs.lemmas.Option.{slice_get_read}
use Rattle.break_rule.specs.declared.margin.Side.TheVariants.{Left}
use Rattle.break_rule.specs.Margins.{subs_margin}
use Rattle.break_rule.proofs.MarginLaws.{subs_left_step}
use Rattle.break_rule.proofs.margin.first_margin.Goals as goal

pub loop-sub-preserved : goal.loop-sub-preserved
loop-sub-preserved c =
    let stock = c.args.stock.now in
    let subs = c.args.subs.now in
    let i = c.loop-sub.sub-index in
    let is : slice_get subs i ≡ Some c.sub-item.result = slice_get_read _ _ _ _ refl c.loop-sub-test.true c.sub-item.is in
    record {
      exact = c.first_of-found.ensures.exact
          ∙ ap (λ (found : Option ℤ). option_or found c.sub_margin.result) c.loop-sub.invariant.exact
          ∙ ap (option_or (subs_margin Left stock (take i subs))) c.sub_margin.ensures.exact
          ∙ sym (subs_left_step stock subs i c.sub-item.result is);
      small = c.first_of-found.ensures.small;
    }
