use Rattle.std.proofs.Common.{◌∙◌, sym, subst, map}
use Rattle.std.specs.Prelude.{All}
use Rattle.std.proofs.lemmas.Result.{err_from_is_err_and}
use Rattle.hpack_two.specs.Over.{base_of}
use Rattle.para_threads.specs.Slots.{IsFull}
use Rattle.para_threads.proofs.SlotPages.{all-full, job-refused, job-told, owners-used, pages-count, pages-over}
use Rattle.para_threads.proofs.workers.set_all.Goals as goal

pub in_order-requires-clause-full : goal.in_order-requires-clause-full
in_order-requires-clause-full g c =
    let job = c.args.job.now in
    let stock = c.args.stock.now in
    subst (All IsFull) (sym c.in-Ok.ensures.slots) (all-full job stock job.pars)

pub returns-in_err-pages-clause-pages : goal.returns-in_err-pages-clause-pages
returns-in_err-pages-clause-pages g c =
    let p = err_from_is_err_and c.from_residual.result c.from_residual.ensures.1 in
    rw (p.1, p.2) (job-refused c.args.job.now c.args.stock.now c.in-Ok.field-0.slots.items _ c.in-Ok.ensures.slots c.in_err-pages.ensures)

pub returns-clause-pages : goal.returns-clause-pages
returns-clause-pages g c =
    sym (job-told c.args.job.now c.args.stock.now c.in-Ok.field-0.slots.items c.in-Ok.ensures.slots) ∙ c.in_ok-pages.ensures

pub returns-clause-over : goal.returns-clause-over
returns-clause-over g c =
    let job = c.args.job.now in
    let stock = c.args.stock.now in
    let full = subst (All IsFull) (sym c.in-Ok.ensures.slots) (all-full job stock job.pars) in
    pages-over stock c.in-Ok.field-0.slots.items c.in_ok-pages.pages full c.in-Ok.ensures.over c.in_ok-pages.ensures

pub returns-clause-count : goal.returns-clause-count
returns-clause-count g c =
    let job = c.args.job.now in
    let stock = c.args.stock.now in
    let full = subst (All IsFull) (sym c.in-Ok.ensures.slots) (all-full job stock job.pars) in
    pages-count job stock c.in-Ok.field-0.slots.items c.in_ok-pages.pages c.in-Ok.ensures.slots full c.in_ok-pages.ensures

pub returns-clause-cells : goal.returns-clause-cells
returns-clause-cells g c =
    owners-used (map base_of c.args.stock.now) _ c.in_ok-pages.pages c.in-Ok.field-0.closed.owners c.in_ok-pages.ensures c.in-Ok.ensures.cells

pub returns-clause-bases : goal.returns-clause-bases
returns-clause-bases g c = c.in-Ok.ensures.bases

pub returns-clause-seats : goal.returns-clause-seats
returns-clause-seats g c = c.in-Ok.ensures.seats

pub returns-clause-owners : goal.returns-clause-owners
returns-clause-owners g c = c.in-Ok.ensures.owners
