use Rattle.std.proofs.Common.{◌≡◌, ◌∙◌, ap, arith, length, List, map}
use Rattle.hpack_two.specs.Over.{base_of}
use Rattle.instance_core.specs.declared.font.BaseFont.{BaseFont}
use Rattle.table_widths.specs.Widths.{touched_of}
use Rattle.para_threads.proofs.WholeJobs.{entries-all, owned-by, owns-used, slots-over, slots-told}
use Rattle.para_threads.proofs.workers.set_slots.Goals as goal

pub returns-clause-slots : goal.returns-clause-slots
returns-clause-slots g c =
    let job = c.args.job.now in
    let stock = c.args.stock.now in
    let crew = c.in_ok-slots.ensures in
    let view = c.crew.new.first.view in
    let slots = c.in_ok-slots.slots.items in
    let count : length slots ≡ length job.pars = omega (arith, crew.length, c.in_ok-slots.slots.ok) in
    let draws : view.draws ≡ length job.pars = omega (arith, crew.idle.0.2, c.in_ok-table.ensures.table.1, c.len.ensures, c.requires.job.few_pars) in
    slots-told job stock view slots crew.gathered count
    (entries-all job stock view slots crew.gathered count draws crew.past c.in-Ok.ensures.closes.drawn)

pub returns-clause-over : goal.returns-clause-over
returns-clause-over g c =
    let job = c.args.job.now in
    let stock = c.args.stock.now in
    let crew = c.in_ok-slots.ensures in
    let view = c.crew.new.first.view in
    let slots = c.in_ok-slots.slots.items in
    let count : length slots ≡ length job.pars = omega (arith, crew.length, c.in_ok-slots.slots.ok) in
    let draws : view.draws ≡ length job.pars = omega (arith, crew.idle.0.2, c.in_ok-table.ensures.table.1, c.len.ensures, c.requires.job.few_pars) in
    slots-over job stock view slots crew.gathered count
    (entries-all job stock view slots crew.gathered count draws crew.past c.in-Ok.ensures.closes.drawn)

pub returns-clause-cells : goal.returns-clause-cells
returns-clause-cells g c =
    let job = c.args.job.now in
    let stock = c.args.stock.now in
    let crew = c.in_ok-slots.ensures in
    let view = c.crew.new.first.view in
    let slots = c.in_ok-slots.slots.items in
    let closes = c.in-Ok.ensures.closes in
    let count : length slots ≡ length job.pars = omega (arith, crew.length, c.in_ok-slots.slots.ok) in
    let draws : view.draws ≡ length job.pars = omega (arith, crew.idle.0.2, c.in_ok-table.ensures.table.1, c.len.ensures, c.requires.job.few_pars) in
    let fonts : c.in_ok-table.table.bases ≡ map base_of stock = c.in_ok-table.ensures.table.0 ∙ c.in_ok-bases.ensures in
    owns-used job stock view slots crew.gathered count (map base_of stock) c.in-Ok.closed.owners
    (entries-all job stock view slots crew.gathered count draws crew.past closes.drawn)
    (crew.idle.0.1 ∙ fonts)
    (closes.cells ∙ ap (λ (fs : List BaseFont). touched_of fs view.seen) fonts)

pub returns-clause-owners : goal.returns-clause-owners
returns-clause-owners g c =
    owned-by c.in_ok-table.table c.crew.new.first.view c.in-Ok.closed c.args.workers c.in-Ok.ensures.closes
    c.in_ok-slots.ensures.gathered.claims c.in_ok-slots.ensures.made

pub returns-clause-bases : goal.returns-clause-bases
returns-clause-bases g c = c.in-Ok.ensures.closes.bases ∙ c.in_ok-table.ensures.table.0 ∙ c.in_ok-bases.ensures

pub returns-clause-seats : goal.returns-clause-seats
returns-clause-seats g c = c.in-Ok.ensures.closes.seats ∙ c.in_ok-slots.ensures.made
