-- The list as it stands is broken by the first pass, or is its own hyphenated form.
use Rattle.std.proofs.Common.{◌∙◌, refl, ap, sym, option_map}
use Rattle.hlist_hyph.specs.Hyphenated.{places_in}
use Rattle.hlist_hyph.proofs.OwnLemmas.{items-below}
use Rattle.break_rule.specs.Fits.{Rule}
use Rattle.list_fonts.proofs.OverLaws.{list_over}
use Rattle.paragraph_breaks.specs.Outcome.{without_emergency}
use Rattle.paragraph_breaks.specs.Passes.{Paragraph, early_taken, late_taken, taken_by}
use Rattle.paragraph_breaks.proofs.BrokenLists.{early_broken, late_broken}
use Rattle.paragraph_breaks.proofs.PassSteps.{no_early}
use Rattle.paragraph_breaks.proofs.TakenPasses.{none_of}
use Rattle.paragraph_breaks.proofs.breaking.broken_unhyphenated.Goals as goal

pub is_changed-requires : goal.is_changed-requires
is_changed-requires c = items-below c.args.stock.now c.args.list.now.items c.requires.own

pub returns-then-branch-clause-none : goal.returns-then-branch-clause-none
returns-then-branch-clause-none c =
    no_early c.args.list.now.items c.args.params.now c.args.shape.now c.args.stock.now
    (sym c.has_no_first_pass.ensures ∙ c.if-has_no_first_pass.true)

pub returns-then-has_no_first_pass-clause-broken : goal.returns-then-has_no_first_pass-clause-broken
returns-then-has_no_first_pass-clause-broken c =
    let p : Paragraph =
    record {
      items = c.args.list.now.items;
      params = c.args.params.now;
      shape = c.args.shape.now;
      tables = c.args.tables.now;
      places = places_in c.args.patterns.now c.args.params.now;
      stock = c.args.stock.now;
    } in
    late_broken p c.args.list.now c.in_ok-broken_hyphenated.field-0.breaks (sym (c.in_ok-is_changed.ensures c.if-branch.false))
    (no_early c.args.list.now.items c.args.params.now c.args.shape.now c.args.stock.now
    (sym c.has_no_first_pass.ensures ∙ c.if-has_no_first_pass.true))
    c.in_ok-broken_hyphenated.ensures.breaks

pub make-requires-clause-over : goal.make-requires-clause-over
make-requires-clause-over c = list_over c.args.stock.now c.args.list.now c.requires.own

pub returns-in-Some-clause-broken : goal.returns-in-Some-clause-broken
returns-in-Some-clause-broken c =
    let p : Paragraph =
    record {
      items = c.args.list.now.items;
      params = c.args.params.now;
      shape = c.args.shape.now;
      tables = c.args.tables.now;
      places = places_in c.args.patterns.now c.args.params.now;
      stock = c.args.stock.now;
    } in
    early_broken p c.args.list.now c.in-Some.breaks refl
    (sym (ap (option_map taken_by) c.in-Some.is) ∙ c.in_ok-breaks.ensures
    ∙ ap (λ (r : Rule). early_taken r.items r.params r.shape r.stock) c.in_ok-rule.ensures)

pub returns-in-Some-clause-rule : goal.returns-in-Some-clause-rule
returns-in-Some-clause-rule c = ap without_emergency c.in_ok-rule.ensures

pub is_changed-requires-2 : goal.is_changed-requires-2
is_changed-requires-2 c = items-below c.args.stock.now c.args.list.now.items c.requires.own

pub returns-then-branch-2-clause-none : goal.returns-then-branch-2-clause-none
returns-then-branch-2-clause-none c =
    sym (ap (option_map taken_by) (none_of c.in_ok-breaks.field-0 c.in_default.not-Some)) ∙ c.in_ok-breaks.ensures
    ∙ ap (λ (r : Rule). early_taken r.items r.params r.shape r.stock) c.in_ok-rule.ensures

pub returns-clause-broken : goal.returns-clause-broken
returns-clause-broken c =
    let p : Paragraph =
    record {
      items = c.args.list.now.items;
      params = c.args.params.now;
      shape = c.args.shape.now;
      tables = c.args.tables.now;
      places = places_in c.args.patterns.now c.args.params.now;
      stock = c.args.stock.now;
    } in
    late_broken p c.args.list.now c.in_ok-later_breaks.field-0.breaks (sym (c.in_ok-is_changed-2.ensures c.if-branch-2.false))
    (sym (ap (option_map taken_by) (none_of c.in_ok-breaks.field-0 c.in_default.not-Some)) ∙ c.in_ok-breaks.ensures
    ∙ ap (λ (r : Rule). early_taken r.items r.params r.shape r.stock) c.in_ok-rule.ensures)
    (c.in_ok-later_breaks.ensures.breaks ∙ ap (λ (r : Rule). late_taken r.items r.params r.shape r.stock) c.in_ok-rule.ensures)

pub returns-clause-rule : goal.returns-clause-rule
returns-clause-rule c = c.in_ok-later_breaks.ensures.rule ∙ c.in_ok-rule.ensures
