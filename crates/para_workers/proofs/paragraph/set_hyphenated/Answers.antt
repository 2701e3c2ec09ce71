-- The hyphenated list as a page.
use Rattle.std.proofs.Common.{subst, sym, List}
use Rattle.hlist_hyph.specs.Hyphenated.{places_in}
use Rattle.hlist_hyph.proofs.OwnLemmas.{items-below}
use Rattle.micro_num.specs.declared.params.Params.{Params}
use Rattle.break_rule.specs.declared.line.From.TheVariants.{Start}
use Rattle.instance_core.specs.declared.page.Packed.{Packed}
use Rattle.instance_core.specs.declared.page.Page.{Page}
use Rattle.list_fonts.proofs.AlikeLaws.{same_fonts_share}
use Rattle.para_workers.specs.Lengths.{HasLengths}
use Rattle.para_workers.specs.SetPar.{page_by, set_lines}
use Rattle.para_workers.specs.Touched.{TouchedByPage}
use Rattle.para_workers.proofs.LineTurns.{Gives}
use Rattle.para_workers.proofs.BrokenRules.{all-lines, few, late-is, lengths, over_shape, params-are, places, short, stock-is}
use Rattle.para_workers.proofs.paragraph.set_hyphenated.Goals as goal

pub hyphenated-requires-clause-fonts : goal.hyphenated-requires-clause-fonts
hyphenated-requires-clause-fonts g c = items-below c.args.stock.now c.args.list.now.items c.requires.own

pub broken_hyphenated-requires-clause-share : goal.broken_hyphenated-requires-clause-share
broken_hyphenated-requires-clause-share g c =
    same_fonts_share c.args.par.now.params c.args.stock.now c.args.list.now.items c.in-Ok.made.items c.in-Ok.ensures.fonts c.requires.share

pub set_broken-requires-clause-stock : goal.set_broken-requires-clause-stock
set_broken-requires-clause-stock g c =
    let par = c.args.par.now in
    let hyphens = places_in c.args.patterns.now par.params in
    let shape = c.as_slice-shape.result.now in
    let made = c.in-Ok.made in
    let broken = c.in-Ok-broken_hyphenated.broken in
    let is = late-is par c.args.tables.now hyphens c.args.stock.now c.args.list.now.items shape c.as_slice-shape.ensures made broken
    c.in-Ok.ensures.exact c.requires.none c.in-Ok-broken_hyphenated.ensures.breaks in
    let p = over_shape par c.args.tables.now hyphens c.args.stock.now c.args.list.now.items shape in
    stock-is p made broken is c.in-Ok-broken_hyphenated.ensures.rule

pub set_broken-requires-clause-few : goal.set_broken-requires-clause-few
set_broken-requires-clause-few g c =
    let par = c.args.par.now in
    let hyphens = places_in c.args.patterns.now par.params in
    let shape = c.as_slice-shape.result.now in
    let made = c.in-Ok.made in
    let broken = c.in-Ok-broken_hyphenated.broken in
    let is = late-is par c.args.tables.now hyphens c.args.stock.now c.args.list.now.items shape c.as_slice-shape.ensures made broken
    c.in-Ok.ensures.exact c.requires.none c.in-Ok-broken_hyphenated.ensures.breaks in
    let p = over_shape par c.args.tables.now hyphens c.args.stock.now c.args.list.now.items shape in
    few p made broken is c.in-Ok-broken_hyphenated.ensures.rule (short made c.in-Ok.ensures.bounds)

pub set_broken-requires-clause-places : goal.set_broken-requires-clause-places
set_broken-requires-clause-places g c =
    let par = c.args.par.now in
    let hyphens = places_in c.args.patterns.now par.params in
    let shape = c.as_slice-shape.result.now in
    let made = c.in-Ok.made in
    let broken = c.in-Ok-broken_hyphenated.broken in
    let is = late-is par c.args.tables.now hyphens c.args.stock.now c.args.list.now.items shape c.as_slice-shape.ensures made broken
    c.in-Ok.ensures.exact c.requires.none c.in-Ok-broken_hyphenated.ensures.breaks in
    let p = over_shape par c.args.tables.now hyphens c.args.stock.now c.args.list.now.items shape in
    places p made broken is c.in-Ok-broken_hyphenated.ensures.rule

pub set_broken-requires-clause-lengths : goal.set_broken-requires-clause-lengths
set_broken-requires-clause-lengths g c =
    let par = c.args.par.now in
    let hyphens = places_in c.args.patterns.now par.params in
    let shape = c.as_slice-shape.result.now in
    let made = c.in-Ok.made in
    let broken = c.in-Ok-broken_hyphenated.broken in
    let is = late-is par c.args.tables.now hyphens c.args.stock.now c.args.list.now.items shape c.as_slice-shape.ensures made broken
    c.in-Ok.ensures.exact c.requires.none c.in-Ok-broken_hyphenated.ensures.breaks in
    let p = over_shape par c.args.tables.now hyphens c.args.stock.now c.args.list.now.items shape in
    lengths p made broken is c.in-Ok-broken_hyphenated.ensures.rule
    (subst (HasLengths par.params) (sym c.as_slice-shape.ensures) c.requires.lengths)

pub returns-clause-page : goal.returns-clause-page
returns-clause-page g c =
    let par = c.args.par.now in
    let hyphens = places_in c.args.patterns.now par.params in
    let shape = c.as_slice-shape.result.now in
    let made = c.in-Ok.made in
    let broken = c.in-Ok-broken_hyphenated.broken in
    let is = late-is par c.args.tables.now hyphens c.args.stock.now c.args.list.now.items shape c.as_slice-shape.ensures made broken
    c.in-Ok.ensures.exact c.requires.none c.in-Ok-broken_hyphenated.ensures.breaks in
    let p = over_shape par c.args.tables.now hyphens c.args.stock.now c.args.list.now.items shape in
    let whole = all-lines par c.args.tables.now hyphens c.args.stock.now c.args.list.now.items shape c.as_slice-shape.ensures made broken is
    c.in-Ok-broken_hyphenated.ensures.rule in
    subst (λ (lines : List Packed). Gives Page c.set_broken.result (page_by par.params lines)) whole
    (subst (λ (params : Params). Gives Page c.set_broken.result (page_by params (set_lines broken.rule 1 Start broken.breaks.places)))
    (params-are p made broken is c.in-Ok-broken_hyphenated.ensures.rule) c.set_broken.ensures.page)

pub returns-clause-touched : goal.returns-clause-touched
returns-clause-touched g c =
    let par = c.args.par.now in
    let hyphens = places_in c.args.patterns.now par.params in
    let shape = c.as_slice-shape.result.now in
    let made = c.in-Ok.made in
    let broken = c.in-Ok-broken_hyphenated.broken in
    let is = late-is par c.args.tables.now hyphens c.args.stock.now c.args.list.now.items shape c.as_slice-shape.ensures made broken
    c.in-Ok.ensures.exact c.requires.none c.in-Ok-broken_hyphenated.ensures.breaks in
    let whole = all-lines par c.args.tables.now hyphens c.args.stock.now c.args.list.now.items shape c.as_slice-shape.ensures made broken is
    c.in-Ok-broken_hyphenated.ensures.rule in
    subst (λ (lines : List Packed). TouchedByPage lines (g.W.WidthSource.bases c.args.source.now) (g.W.WidthSource.touched c.args.source.now)
    (g.W.WidthSource.touched c.set_broken.new.source) c.set_broken.result) whole c.set_broken.ensures.touched
