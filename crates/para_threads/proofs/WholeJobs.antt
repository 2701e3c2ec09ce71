-- What is known once all workers were joined and the table was closed.
--     entries-all       each paragraph has an entry
--     slots-told        so each slot has what becomes of its paragraph
--     slots-over        and its page fits the stock
--     owns-used         the owners' instances are those that the pages use
--     owned-by          and their owners are workers
use Rattle.std.proofs.Common.{◌≡◌, ◌≢◌, ℕ, zero, suc, ◌+◌, ◌<◌, ◌≤◌, refl, ap, sym, ◌∙◌, subst, arith, List, [], ◌∷◌, map, length, get_or, All, Contains, Some, None, Result, Ok, Err}
use Rattle.std.specs.Prelude.{slice_get}
use Rattle.std.proofs.lemmas.List.{get_or-map, get_or_default, length-map, same_lists}
use Rattle.std.proofs.lemmas.List.Elements.{All-contains, All-map, Contains-append_right}
use Rattle.std.proofs.lemmas.Option.{get_or_from_slice_get, slice_get_within}
use mathlib.Core.Logic.{dite}
use native.Mathlib.Decide.{ℕ_discrete}
use Rattle.font_stock.specs.declared.font.Font.{Font}
use Rattle.hlist_build.specs.declared.fault.ParFault.{ParFault}
use Rattle.hpack_two.specs.Answers.{touched_with}
use Rattle.instance_core.specs.declared.font.BaseFont.{BaseFont}
use Rattle.instance_core.specs.declared.page.Owner.{Owner}
use Rattle.instance_core.specs.declared.page.Page.{Page}
use Rattle.instance_table.specs.declared.closing.Closed.{Closed}
use Rattle.instance_table.specs.declared.view.Claimed.{Claimed}
use Rattle.instance_table.specs.declared.view.Drawn.{Drawn}
use Rattle.instance_table.specs.declared.view.View.{View}
use Rattle.instance_table.specs.Closing.{AreDrawn, Closes, claims_below, owner_of}
use Rattle.instance_table.specs.Places.{cell_count}
use Rattle.instance_table.specs.Rule.{draws_in, draws_of}
use Rattle.instance_table.specs.Seats.{Standing}
use Rattle.instance_table.proofs.OwnerLemmas.{All-claims_below}
use Rattle.instance_table.proofs.TotalLemmas.{one_if-other}
use Rattle.job_text.specs.declared.job.Job.{Job}
use Rattle.job_dvi.proofs.TouchedUses.{touched_are_used}
use Rattle.para_workers.specs.declared.fault.ParAt.{ParAt}
use Rattle.renumber.specs.Uses.{used}
use Rattle.table_widths.specs.Widths.{touched_of}
use Rattle.para_threads.specs.declared.done.DoneAt.{DoneAt}
use Rattle.para_threads.specs.Gathering.{Gathered, HasEntry, HasPast, cells_done}
use Rattle.para_threads.specs.SetJobs.{IsOwnedBy, Owns}
use Rattle.para_threads.specs.Slots.{IsFull, IsSlotOver, Slot, pages_in, slot_at, slot_of}
use Rattle.para_threads.specs.Working.{IsDone}
use Rattle.para_threads.proofs.SlotCells.{pages-asked}
use Rattle.para_threads.proofs.SlotPages.{all-full}

record HasDraw (ds : List Drawn) (x : ℕ) : Type 0 where
  draw : Drawn
  among : Contains ds draw
  is : draw.draw ≡ x

draw-of : (x : ℕ) (ds : List Drawn) → draws_in x ds ≡ 1 → HasDraw ds x
draw-of x [] one = absurd (omega (arith, one))
draw-of x (d ∷ ds) one = dite (ℕ_discrete d.draw x)
    (λ same. record { draw = d; among = (0, omega arith, refl); is = same })
    (λ other.
    let none = one_if-other d.draw x other in
    let later = draw-of x ds (omega (arith, one, none)) in
    record { draw = later.draw; among = Contains-append_right (d ∷ []) ds later.draw later.among; is = later.is })

module _ (job : Job) (stock : List Font) (view : View) (slots : List Slot) (gathered : Gathered job stock view slots) (count : length slots ≡ length job.pars) where
  pub entries-all : view.draws ≡ length job.pars → HasPast (length job.pars) view → AreDrawn view → (place : ℕ) → place < length job.pars → HasEntry gathered.all place
  entries-all draws past drawn place small =
      let once : draws_of place view ≡ 1 =
      drawn.all past.draw past.among (subst (λ (n : ℕ). n ≤ past.draw.draw) (sym draws) past.past) place (subst (λ (n : ℕ). place < n) (sym draws) small) in
      let own = draw-of place view.drawn once in
      let known : own.draw.draw < length job.pars → HasEntry gathered.all own.draw.draw =
      All-contains (λ (d : Drawn). d.draw < length job.pars → HasEntry gathered.all d.draw) view.drawn own.draw gathered.drawn own.among in
      subst (λ (n : ℕ). n < length job.pars → HasEntry gathered.all n) own.is known small

  slot-told : (k : ℕ) (d : Slot) → k < length slots → HasEntry gathered.all k → get_or slots k d ≡ get_or (map (slot_of job stock) job.pars) k d
  slot-told k d small has =
      let one : DoneAt = has.one in
      let done : IsDone job stock one = All-contains (IsDone job stock) gathered.all one gathered.each has.among in
      let stands : slot_at slots one.place ≡ Some one.page =
      All-contains (λ (e : DoneAt). slot_at slots e.place ≡ Some e.page) gathered.all one gathered.stand has.among in
      let here : slice_get job.pars k ≡ Some done.par = subst (λ (n : ℕ). slice_get job.pars n ≡ Some done.par) has.there done.here in
      get_or_default slots k d None small
      ∙ ap (λ (n : ℕ). slot_at slots n) (sym has.there)
      ∙ stands
      ∙ ap (λ (page : Result Page ParFault). Some page) done.is
      ∙ ap (slot_of job stock) (sym (get_or_from_slice_get job.pars k done.par done.par here))
      ∙ sym (get_or-map (slot_of job stock) job.pars k done.par d (subst (λ (n : ℕ). k < n) count small))

  pub slots-told : ((place : ℕ) → place < length job.pars → HasEntry gathered.all place) → slots ≡ map (slot_of job stock) job.pars
  slots-told entries =
      same_lists slots (map (slot_of job stock) job.pars) (count ∙ sym (length-map job.pars (slot_of job stock)))
      (λ k d small. slot-told k d small (entries k (subst (λ (n : ℕ). k < n) count small)))

  slot-over : (k : ℕ) (d : Slot) → k < length slots → HasEntry gathered.all k → IsSlotOver stock (get_or slots k d)
  slot-over k d small has =
      let one : DoneAt = has.one in
      let done : IsDone job stock one = All-contains (IsDone job stock) gathered.all one gathered.each has.among in
      let stands : slot_at slots one.place ≡ Some one.page =
      All-contains (λ (e : DoneAt). slot_at slots e.place ≡ Some e.page) gathered.all one gathered.stand has.among in
      subst (IsSlotOver stock) (sym (get_or_default slots k d None small ∙ ap (λ (n : ℕ). slot_at slots n) (sym has.there) ∙ stands)) done.over

  pub slots-over : ((place : ℕ) → place < length job.pars → HasEntry gathered.all place) → All (IsSlotOver stock) slots
  slots-over entries k d small = slot-over k d small (entries k (subst (λ (n : ℕ). k < n) count small))

  entry-inside : (k : ℕ) (d : DoneAt) → k < length gathered.all → (get_or gathered.all k d).place < length slots
  entry-inside k d small =
      let done : IsDone job stock (get_or gathered.all k d) = gathered.each k d small in
      subst (λ (n : ℕ). (get_or gathered.all k d).place < n) (sym count) (slice_get_within job.pars (get_or gathered.all k d).place done.par done.here)

  -- where the pages are told
  owns-pages : (bases : List BaseFont) (owners : List Owner) (pages : List Page) → ((place : ℕ) → place < length job.pars → HasEntry gathered.all place)
      → view.bases ≡ bases → map (λ (o : Owner). o.cell) owners ≡ touched_of bases view.seen → pages_in 1 slots ≡ Ok pages
      → map (λ (o : Owner). o.cell) owners ≡ used bases pages
  owns-pages bases owners pages entries fonts cells is =
      let full : All IsFull slots = subst (All IsFull) (sym (slots-told entries)) (all-full job stock job.pars) in
      let asked = pages-asked slots gathered.all entry-inside gathered.stand bases pages (λ place small. entries place (subst (λ (n : ℕ). place < n) count small)) full is in
      let seen : touched_of bases view.seen ≡ touched_with bases (cells_done gathered.all) [] =
      subst (λ (fs : List BaseFont). touched_of fs view.seen ≡ touched_with fs (cells_done gathered.all) []) fonts (gathered.asked asked.0) in
      touched_are_used bases pages [] (map (λ (o : Owner). o.cell) owners) refl (cells ∙ seen ∙ asked.1)

  pub owns-used : (bases : List BaseFont) (owners : List Owner) → ((place : ℕ) → place < length job.pars → HasEntry gathered.all place)
      → view.bases ≡ bases → map (λ (o : Owner). o.cell) owners ≡ touched_of bases view.seen
      → Owns bases (pages_in 1 slots) owners
  owns-used bases owners entries fonts cells = each (pages_in 1 slots) refl
    where
      each : (wanted : Result (List Page) ParAt) → pages_in 1 slots ≡ wanted → Owns bases wanted owners
      each (Ok pages) is = owns-pages bases owners pages entries fonts cells is
      each (Err at) is = tt

-- ---- workers

owned : (bases : List BaseFont) (claims : List Claimed) → All (λ e. e.number ≢ 0) claims → All (λ (o : Owner). o.worker ≢ 0) (map (owner_of bases) claims)
owned bases claims each = All-map (λ (o : Owner). o.worker ≢ 0) (owner_of bases) claims each

pub owned-by : (table : Standing) (view : View) (closed : Closed) (workers : ℕ) → Closes table view closed → All (λ e. e.number ≢ 0) view.claims → view.made ≡ workers + 1
    → All (IsOwnedBy workers) closed.owners
owned-by table view closed workers closes claims made k d small =
    let none : All (λ (o : Owner). o.worker ≢ 0) closed.owners =
    subst (All (λ (o : Owner). o.worker ≢ 0)) (sym closes.owners)
    (owned table.bases (claims_below view.claims (cell_count table.bases))
    (All-claims_below (λ (e : Claimed). e.number ≢ 0) view.claims (cell_count table.bases) claims)) in
    let few : (get_or closed.owners k d).worker < closed.seats = closes.workers k d small in
    record {
      some = positive (get_or closed.owners k d).worker (none k d small);
      few = omega (arith, few, closes.seats, made);
    }
  where
    positive : (n : ℕ) → n ≢ 0 → 1 ≤ n
    positive zero other = absurd (other refl)
    positive (suc n) other = omega arith
