use Rattle.std.proofs.Common.{◌≡◌, ◌∙◌, ap, sym, arith}
use Rattle.instance_table.specs.Seats.{Standing, Sitting}
use Rattle.table_widths.specs.Widths.{touched_of}
use Rattle.para_threads.proofs.WorkTurns.{set-at, touched-at, here-at}
use Rattle.para_threads.proofs.worker.Worker.set.Goals as goal

pub overflow_add-place : goal.overflow_add-place
overflow_add-place g c = omega (arith, c.requires.within, c.requires.ready.few)

pub returns-clause-page : goal.returns-clause-page
returns-clause-page g c =
    let job = c.args.self.now.job.now in
    let par = c.index-as_slice-place.result in
    let here = here-at job.pars c.as_slice.result.now c.args.place par c.as_slice.ensures c.requires.within c.index-as_slice-place.is in
    set-at job c.args.self.now.stock.now c.args.self.now.patterns.now c.args.place par c.set_par-page.result c.requires.ready.patterns_made here
    c.set_par-page.ensures.over c.set_par-page.ensures.page

pub returns-clause-touched : goal.returns-clause-touched
returns-clause-touched g c =
    let job = c.args.self.now.job.now in
    let table = c.args.self.now.table.now in
    let par = c.index-as_slice-place.result in
    let here = here-at job.pars c.as_slice.result.now c.args.place par c.as_slice.ensures c.requires.within c.index-as_slice-place.is in
    let source = c.make-source.result in
    let left = c.set_par-page.new.source in
    let fonts : source.worker.table.now.bases ≡ table.bases = ap (λ (t : Standing). t.bases) c.make-source.ensures.table in
    touched-at job c.args.self.now.stock.now c.args.self.now.patterns.now c.args.place par c.set_par-page.result
    source.worker.table.now.bases table.bases
    (touched_of source.worker.table.now.bases source.seat.view.seen) (touched_of table.bases c.args.seat.view.seen)
    (touched_of left.worker.table.now.bases left.seat.view.seen) (touched_of table.bases c.finish.result.view.seen)
    c.requires.ready.patterns_made here fonts
    (ap (λ fs. touched_of fs source.seat.view.seen) fonts ∙ ap (λ (s : Sitting). touched_of table.bases s.view.seen) c.make-source.ensures.seat)
    (ap (λ fs. touched_of fs left.seat.view.seen) (c.set_par-page.ensures.bases ∙ fonts) ∙ sym (ap (λ (s : Sitting). touched_of table.bases s.view.seen) c.finish.ensures.seat))
    c.set_par-page.ensures.touched
