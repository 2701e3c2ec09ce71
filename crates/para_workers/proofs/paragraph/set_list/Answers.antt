-- The list as it stands, or else its hyphenated form, as a page.
use Rattle.std.proofs.Common.{◌≡◌, subst, sym, false, List, None}
use Rattle.hlist.proofs.CountLemmas.{small-in_bounds}
use Rattle.hlist_hyph.specs.Hyphenated.{places_in}
use Rattle.micro_num.specs.declared.params.Params.{Params}
use Rattle.micro_num.specs.declared.shape.ShapeLine.{ShapeLine}
use Rattle.break_rule.specs.declared.line.From.TheVariants.{Start}
use Rattle.instance_core.specs.declared.page.Packed.{Packed}
use Rattle.instance_core.specs.declared.page.Page.{Page}
use Rattle.paragraph_breaks.specs.Passes.{early_taken, rule_over}
use Rattle.para_workers.specs.Lengths.{HasLengths}
use Rattle.para_workers.specs.SetPar.{page_by, set_lines}
use Rattle.para_workers.specs.Touched.{TouchedByPage}
use Rattle.para_workers.proofs.LineTurns.{Gives}
use Rattle.para_workers.proofs.BrokenRules.{all-lines, broken-of, few, lengths, none-of, over_shape, params-are, places, rule-of, short, stock-is}
use Rattle.para_workers.proofs.paragraph.set_list.Goals as goal

pub broken_unhyphenated-requires-clause-bounds : goal.broken_unhyphenated-requires-clause-bounds
broken_unhyphenated-requires-clause-bounds g c = small-in_bounds c.args.list.now c.requires.small

pub set_broken-requires-clause-stock : goal.set_broken-requires-clause-stock
set_broken-requires-clause-stock g c =
    let p = over_shape c.args.par.now c.args.tables.now (places_in c.args.patterns.now c.args.par.now.params) c.args.stock.now c.args.list.now.items c.as_slice-shape.result.now in
    stock-is p c.args.list.now c.in-Some.broken (broken-of p c.args.list.now c.in-Ok.found c.in-Some.broken c.in-Some.is c.in-Ok.ensures.broken) (rule-of (rule_over c.args.list.now.items c.args.par.now.params c.as_slice-shape.result.now c.args.stock.now false) c.in-Ok.found c.in-Some.broken c.in-Some.is c.in-Ok.ensures.rule)

pub set_broken-requires-clause-few : goal.set_broken-requires-clause-few
set_broken-requires-clause-few g c =
    let p = over_shape c.args.par.now c.args.tables.now (places_in c.args.patterns.now c.args.par.now.params) c.args.stock.now c.args.list.now.items c.as_slice-shape.result.now in
    few p c.args.list.now c.in-Some.broken (broken-of p c.args.list.now c.in-Ok.found c.in-Some.broken c.in-Some.is c.in-Ok.ensures.broken) (rule-of (rule_over c.args.list.now.items c.args.par.now.params c.as_slice-shape.result.now c.args.stock.now false) c.in-Ok.found c.in-Some.broken c.in-Some.is c.in-Ok.ensures.rule) (short c.args.list.now (small-in_bounds c.args.list.now c.requires.small))

pub set_broken-requires-clause-places : goal.set_broken-requires-clause-places
set_broken-requires-clause-places g c =
    let p = over_shape c.args.par.now c.args.tables.now (places_in c.args.patterns.now c.args.par.now.params) c.args.stock.now c.args.list.now.items c.as_slice-shape.result.now in
    places p c.args.list.now c.in-Some.broken (broken-of p c.args.list.now c.in-Ok.found c.in-Some.broken c.in-Some.is c.in-Ok.ensures.broken) (rule-of (rule_over c.args.list.now.items c.args.par.now.params c.as_slice-shape.result.now c.args.stock.now false) c.in-Ok.found c.in-Some.broken c.in-Some.is c.in-Ok.ensures.rule)

pub set_broken-requires-clause-lengths : goal.set_broken-requires-clause-lengths
set_broken-requires-clause-lengths g c =
    let p = over_shape c.args.par.now c.args.tables.now (places_in c.args.patterns.now c.args.par.now.params) c.args.stock.now c.args.list.now.items c.as_slice-shape.result.now in
    lengths p c.args.list.now c.in-Some.broken (broken-of p c.args.list.now c.in-Ok.found c.in-Some.broken c.in-Some.is c.in-Ok.ensures.broken) (rule-of (rule_over c.args.list.now.items c.args.par.now.params c.as_slice-shape.result.now c.args.stock.now false) c.in-Ok.found c.in-Some.broken c.in-Some.is c.in-Ok.ensures.rule)
    (subst (HasLengths c.args.par.now.params) (sym c.as_slice-shape.ensures) c.requires.lengths)

pub returns-in-Some-clause-page : goal.returns-in-Some-clause-page
returns-in-Some-clause-page g c =
    let hyphens = places_in c.args.patterns.now c.args.par.now.params in
    let p = over_shape c.args.par.now c.args.tables.now hyphens c.args.stock.now c.args.list.now.items c.as_slice-shape.result.now in
    let whole = all-lines c.args.par.now c.args.tables.now hyphens c.args.stock.now c.args.list.now.items c.as_slice-shape.result.now c.as_slice-shape.ensures
    c.args.list.now c.in-Some.broken (broken-of p c.args.list.now c.in-Ok.found c.in-Some.broken c.in-Some.is c.in-Ok.ensures.broken) (rule-of (rule_over c.args.list.now.items c.args.par.now.params c.as_slice-shape.result.now c.args.stock.now false) c.in-Ok.found c.in-Some.broken c.in-Some.is c.in-Ok.ensures.rule) in
    subst (λ (lines : List Packed). Gives Page c.set_broken.result (page_by c.args.par.now.params lines)) whole
    (subst (λ (params : Params). Gives Page c.set_broken.result (page_by params (set_lines c.in-Some.broken.rule 1 Start c.in-Some.broken.breaks.places)))
    (params-are p c.args.list.now c.in-Some.broken (broken-of p c.args.list.now c.in-Ok.found c.in-Some.broken c.in-Some.is c.in-Ok.ensures.broken) (rule-of (rule_over c.args.list.now.items c.args.par.now.params c.as_slice-shape.result.now c.args.stock.now false) c.in-Ok.found c.in-Some.broken c.in-Some.is c.in-Ok.ensures.rule)) c.set_broken.ensures.page)

pub returns-in-Some-clause-touched : goal.returns-in-Some-clause-touched
returns-in-Some-clause-touched g c =
    let hyphens = places_in c.args.patterns.now c.args.par.now.params in
    let p = over_shape c.args.par.now c.args.tables.now hyphens c.args.stock.now c.args.list.now.items c.as_slice-shape.result.now in
    let whole = all-lines c.args.par.now c.args.tables.now hyphens c.args.stock.now c.args.list.now.items c.as_slice-shape.result.now c.as_slice-shape.ensures
    c.args.list.now c.in-Some.broken (broken-of p c.args.list.now c.in-Ok.found c.in-Some.broken c.in-Some.is c.in-Ok.ensures.broken) (rule-of (rule_over c.args.list.now.items c.args.par.now.params c.as_slice-shape.result.now c.args.stock.now false) c.in-Ok.found c.in-Some.broken c.in-Some.is c.in-Ok.ensures.rule) in
    subst (λ (lines : List Packed). TouchedByPage lines (g.W.WidthSource.bases c.args.source.now) (g.W.WidthSource.touched c.args.source.now)
    (g.W.WidthSource.touched c.set_broken.new.source) c.set_broken.result) whole c.set_broken.ensures.touched

pub set_hyphenated-requires-clause-none : goal.set_hyphenated-requires-clause-none
set_hyphenated-requires-clause-none g c =
    subst (λ (shape : List ShapeLine). None ≡ early_taken c.args.list.now.items c.args.par.now.params shape c.args.stock.now) c.as_slice-shape.ensures
    (none-of (None ≡ early_taken c.args.list.now.items c.args.par.now.params c.as_slice-shape.result.now c.args.stock.now) c.in-Ok.found c.in-None.is c.in-Ok.ensures.none)
