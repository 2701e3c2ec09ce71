-- The list is copied where it is broken as it stands.
use Rattle.std.proofs.Common.{◌≡◌, sym, subst, Option, None, Some}
use Rattle.std.specs.Prelude.{IfNone, IfSome}
use Rattle.hlist.specs.Bounds.{IsInBounds}
use Rattle.hlist.specs.declared.item.HList.{HList}
use Rattle.hlist.proofs.CountLemmas.{small-in_bounds}
use Rattle.hlist_hyph.specs.Hyphenated.{places_in}
use Rattle.hlist_hyph.proofs.OwnLemmas.{items-below}
use Rattle.list_fonts.proofs.AlikeLaws.{same_fonts_share}
use Rattle.break_rule.specs.Over.{Share}
use Rattle.paragraph_breaks.specs.declared.broken.Broken.{Broken}
use Rattle.paragraph_breaks.specs.declared.broken.BrokenRule.{BrokenRule}
use Rattle.paragraph_breaks.specs.Outcome.{IsBroken, broken_as}
use Rattle.paragraph_breaks.specs.Passes.{Paragraph, early_taken}
use Rattle.paragraph_breaks.proofs.BrokenLists.{late_broken}
use Rattle.paragraph_breaks.proofs.TakenPasses.{none_of}
use Rattle.paragraph_breaks.proofs.breaking.breaks.Goals as goal

pub broken_unhyphenated-requires-clause-bounds : goal.broken_unhyphenated-requires-clause-bounds
broken_unhyphenated-requires-clause-bounds c = small-in_bounds c.args.list.now c.requires.small

pub returns-in-Some-clause-broken : goal.returns-in-Some-clause-broken
returns-in-Some-clause-broken c =
    let p : Paragraph =
    record {
      items = c.args.list.now.items;
      params = c.args.params.now;
      shape = c.args.shape.now;
      tables = c.args.tables.now;
      places = places_in c.args.patterns.now c.args.params.now;
      stock = c.args.stock.now;
    } in
    let copied : c.in_ok-copied.field-0 ≡ c.args.list.now = c.in_ok-copied.ensures in
    let found : IfSome (Some c.in-Some.found) (λ broken. IsBroken p (broken_as c.args.list.now broken.breaks)) =
    subst (λ (f : Option BrokenRule). IfSome f (λ broken. IsBroken p (broken_as c.args.list.now broken.breaks))) c.in-Some.is c.in_ok-found.ensures.broken in
    subst (IsBroken p) (sym c.broken.ensures) (subst (λ (l : HList). IsBroken p (broken_as l c.in-Some.found.breaks)) (sym copied) found)

pub returns-in-Some-clause-bounds : goal.returns-in-Some-clause-bounds
returns-in-Some-clause-bounds c =
    let copied : c.in_ok-copied.field-0 ≡ c.args.list.now = c.in_ok-copied.ensures in
    subst (λ (b : Broken). IsInBounds b.list) (sym c.broken.ensures)
    (subst IsInBounds (sym copied) (small-in_bounds c.args.list.now c.requires.small))

pub returns-in-Some-clause-share : goal.returns-in-Some-clause-share
returns-in-Some-clause-share c =
    let copied : c.in_ok-copied.field-0 ≡ c.args.list.now = c.in_ok-copied.ensures in
    subst (λ (b : Broken). Share c.args.params.now c.args.stock.now b.list.items) (sym c.broken.ensures)
    (subst (λ (l : HList). Share c.args.params.now c.args.stock.now l.items) (sym copied) c.requires.share)

pub hyphenated-requires-clause-fonts : goal.hyphenated-requires-clause-fonts
hyphenated-requires-clause-fonts c = items-below c.args.stock.now c.args.list.now.items c.requires.own

pub broken_hyphenated-requires-clause-share : goal.broken_hyphenated-requires-clause-share
broken_hyphenated-requires-clause-share c =
    same_fonts_share c.args.params.now c.args.stock.now c.args.list.now.items c.in_ok-made.made.items c.in_ok-made.ensures.fonts c.requires.share

pub returns-clause-broken : goal.returns-clause-broken
returns-clause-broken c =
    let p : Paragraph =
    record {
      items = c.args.list.now.items;
      params = c.args.params.now;
      shape = c.args.shape.now;
      tables = c.args.tables.now;
      places = places_in c.args.patterns.now c.args.params.now;
      stock = c.args.stock.now;
    } in
    let none : None ≡ early_taken p.items p.params p.shape p.stock =
    subst (λ (found : Option BrokenRule). IfNone found (None ≡ early_taken p.items p.params p.shape p.stock))
    (none_of c.in_ok-found.field-0 c.in_default.not-Some) c.in_ok-found.ensures.none in
    subst (IsBroken p) (sym c.broken-2.ensures)
    (late_broken p c.in_ok-made.made c.in_ok-breaks.field-0.breaks c.in_ok-made.ensures.exact none c.in_ok-breaks.ensures.breaks)

pub returns-clause-share : goal.returns-clause-share
returns-clause-share c =
    subst (λ (b : Broken). Share c.args.params.now c.args.stock.now b.list.items) (sym c.broken-2.ensures)
    (same_fonts_share c.args.params.now c.args.stock.now c.args.list.now.items c.in_ok-made.made.items c.in_ok-made.ensures.fonts c.requires.share)
