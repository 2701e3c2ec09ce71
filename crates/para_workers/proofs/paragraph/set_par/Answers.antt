-- The list of the paragraph as a page.
use Rattle.std.proofs.Common.{subst, List}
use Rattle.std.proofs.lemmas.Result.{err_from_is_err_and}
use Rattle.instance_core.specs.declared.page.Packed.{Packed}
use Rattle.list_fonts.proofs.PartFonts.{paragraph_shares}
use Rattle.hlist_hyph.specs.Hyphenated.{places_in}
use Rattle.para_workers.specs.Touched.{TouchedByPage}
use Rattle.para_workers.proofs.AskedCells.{none-asked}
use Rattle.para_workers.proofs.WholePages.{fault-of-list, lines-of-list, list-is, page-of-list}
use Rattle.para_workers.proofs.paragraph.set_par.Goals as goal

pub returns-in_err-list-clause-page : goal.returns-in_err-list-clause-page
returns-in_err-list-clause-page g c =
    let p = err_from_is_err_and c.from_residual.result c.from_residual.ensures.1 in
    rw (p.1, p.2) (fault-of-list c.args.par.now c.args.tables.now (places_in c.args.patterns.now c.args.par.now.params) c.args.stock.now _ c.in_err-list.ensures.exact)

pub returns-in_err-list-clause-touched : goal.returns-in_err-list-clause-touched
returns-in_err-list-clause-touched g c =
    let p = err_from_is_err_and c.from_residual.result c.from_residual.ensures.1 in
    rw p.1 (none-asked _ _ _ (g.met.W.WidthSource.in_order c.args.source.now))

pub set_list-requires-clause-share : goal.set_list-requires-clause-share
set_list-requires-clause-share g c =
    paragraph_shares c.args.par.now c.args.tables.now c.args.stock.now c.in_ok-list.list (list-is _ _ c.in_ok-list.ensures.exact)

pub returns-clause-page : goal.returns-clause-page
returns-clause-page g c =
    page-of-list c.args.par.now c.args.tables.now (places_in c.args.patterns.now c.args.par.now.params) c.args.stock.now c.in_ok-list.list c.set_list.result
    (list-is _ _ c.in_ok-list.ensures.exact) c.set_list.ensures.page

pub returns-clause-touched : goal.returns-clause-touched
returns-clause-touched g c =
    let lines = lines-of-list c.args.par.now c.args.tables.now (places_in c.args.patterns.now c.args.par.now.params) c.args.stock.now c.in_ok-list.list (list-is _ _ c.in_ok-list.ensures.exact) in
    subst (λ (all : List Packed). TouchedByPage all (g.W.WidthSource.bases c.args.source.now) (g.W.WidthSource.touched c.args.source.now) (g.W.WidthSource.touched c.set_list.new.source) c.set_list.result)
    lines c.set_list.ensures.touched
