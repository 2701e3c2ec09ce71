-- What workers have done together.
--     good-asks          entries with pages asked for the cells of these alone
--     touched-joined     what two seats have seen
--     filled-stand       entries stand where they were put
--     gathered-none, gathered-more    before any seat was joined, and when one more is
use Rattle.std.proofs.Common.{◌≡◌, ◌≢◌, ℕ, suc, ◌<◌, ◌≤◌, refl, ap, sym, ◌∙◌, subst, arith, Bool, true, false, cond, ◌||◌, List, [], ◌∷◌, ◌++◌, append_assoc, append-nil, map, length, set, get_or, get_or-set_same, get_or-set_other, length-set, Some, None, Result, Ok, Err, All, Contains}
use Rattle.std.specs.Prelude.{IfOk, Vec, filter, slice_get}
use Rattle.std.specs.declared.alloc.Global.{Global}
use Rattle.micro_num.specs.declared.memory.NoMemory.{NoMemory as WantOfMemory}
use Rattle.std.proofs.lemmas.Option.{slice_get_within}
use mathlib.Core.Logic.{dite}
use native.Mathlib.Decide.{ℕ_discrete}
use Rattle.std.proofs.lemmas.Grind.{flat_map-append}
use Rattle.std.proofs.lemmas.List.{map-append}
use Rattle.std.proofs.lemmas.List.Elements.{All-append, All-nil, All-cons, All-push, Contains-append_left, Contains-append_right}
use Rattle.font_stock.specs.declared.font.Font.{Font}
use Rattle.hlist_build.specs.declared.fault.ParFault.{ParFault}
use Rattle.instance_core.specs.declared.cell.Cell.{Cell}
use Rattle.instance_core.specs.declared.font.BaseFont.{BaseFont}
use Rattle.instance_core.specs.declared.page.Packed.{Packed}
use Rattle.instance_core.specs.declared.page.Page.{Page}
use Rattle.instance_core.specs.Cells.{cells_of, has_cell, same_cell, in_cell_order}
use Rattle.instance_core.proofs.CellNumbers.{same_cell-self}
use Rattle.instance_core.proofs.Marks.{has_cell-filter, in_cell_order-again, in_cell_order-none}
use Rattle.instance_table.specs.declared.view.Drawn.{Drawn}
use Rattle.instance_table.specs.declared.view.Claimed.{Claimed}
use Rattle.instance_table.specs.declared.view.View.{View}
use Rattle.instance_table.specs.Places.{cell_of_number}
use Rattle.instance_table.specs.Seats.{IsCarried, Standing}
use Rattle.instance_table.specs.Steps.{joined_with, new_view}
use Rattle.table_widths.specs.Widths.{touched_of}
use Rattle.job_text.specs.declared.job.Job.{Job}
use Rattle.hpack_two.specs.Answers.{touched_with}
use Rattle.hpack_two.proofs.Cells.{touched-more}
use Rattle.para_threads.specs.declared.done.DoneAt.{DoneAt}
use Rattle.para_workers.specs.Pages.{page_of_one, places_for}
use Rattle.para_workers.specs.Touched.{TouchedByPage}
use Rattle.para_threads.specs.declared.done.Work.{Work}
use Rattle.para_threads.specs.Crews.{IsWork}
use Rattle.para_threads.specs.Gathering.{cells_if, cells_done, IsGood, AreGood, HasEntry, Gathered, HasPast}
use Rattle.para_threads.specs.Slots.{Slot, slot_at, filled}
use Rattle.para_threads.specs.Working.{AsksForAll, HasWorked, IsDone, drawn_by, drawn_one, lines_at}

-- ---- cells

one-asks : (lines : List Packed) (bases : List BaseFont) (before after : List Cell) (page : Result Page ParFault) → IsGood page → TouchedByPage lines bases before after page
    → after ≡ touched_with bases (cells_if page) before
one-asks lines bases before after (Ok page) good touched = touched
one-asks lines bases before after (Err fault) good touched = absurd good

pub good-asks : (job : Job) (stock : List Font) (bases : List BaseFont) (done : List DoneAt) (before after : List Cell) → before ≡ in_cell_order bases before → AreGood done
    → AsksForAll job stock bases done before after → after ≡ touched_with bases (cells_done done) before
unfolding AsksForAll cells_done
good-asks job stock bases [] before after ordered good asks = asks ∙ ordered
good-asks job stock bases (one ∷ done) before after ordered good asks =
    let first : asks.0 ≡ touched_with bases (cells_if one.page) before =
    one-asks (lines_at job stock one.place) bases before asks.0 one.page (good 0 one (omega arith)) asks.1 in
    let between : asks.0 ≡ in_cell_order bases asks.0 =
    first ∙ sym (in_cell_order-again bases (cells_if one.page ++ before)) ∙ ap (in_cell_order bases) (sym first) in
    good-asks job stock bases done asks.0 after between (λ k d small. good (suc k) d (omega arith)) asks.2
    ∙ ap (touched_with bases (cells_done done)) first
    ∙ touched-more bases (cells_if one.page) (cells_done done) before

filter-same : (p q : Cell → Bool) (xs : List Cell) → ((c : Cell) → has_cell xs c ≡ true → p c ≡ q c) → filter p xs ≡ filter q xs
filter-same p q [] same = refl
filter-same p q (x ∷ xs) same =
    let here : p x ≡ q x = same x (ap (λ b. b || has_cell xs x) (same_cell-self x)) in
    let later : filter p xs ≡ filter q xs = filter-same p q xs (λ c inside. same c (more (same_cell c x) (has_cell xs c) inside)) in
    ap (λ b. cond b (x ∷ filter p xs) (filter p xs)) here ∙ ap (λ rest. cond (q x) (x ∷ rest) rest) later
  where
    more : (a b : Bool) → b ≡ true → (a || b) ≡ true
    more true b inside = refl
    more false b inside = inside

has-append : (xs ys : List Cell) (c : Cell) → has_cell (xs ++ ys) c ≡ (has_cell xs c || has_cell ys c)
has-append [] ys c = refl
has-append (x ∷ xs) ys c = ap (λ b. same_cell c x || b) (has-append xs ys c) ∙ either (same_cell c x) (has_cell xs c) (has_cell ys c)
  where
    either : (a b d : Bool) → (a || (b || d)) ≡ ((a || b) || d)
    either true b d = refl
    either false b d = refl

-- lists with the same cells in order have the same cells of the fonts
has-ordered : (bases : List BaseFont) (xs ys : List Cell) → in_cell_order bases xs ≡ in_cell_order bases ys → (c : Cell) → has_cell (cells_of bases) c ≡ true → has_cell xs c ≡ has_cell ys c
has-ordered bases xs ys same c inside =
    sym (has_cell-filter (has_cell xs) (cells_of bases) c inside) ∙ ap (λ cells. has_cell cells c) same ∙ has_cell-filter (has_cell ys) (cells_of bases) c inside

pub touched-joined : (bases : List BaseFont) (seen more : List ℕ) (xs ys : List Cell) → touched_of bases seen ≡ touched_with bases xs [] → touched_of bases more ≡ touched_with bases ys []
    → touched_of bases (seen ++ more) ≡ touched_with bases (xs ++ ys) []
touched-joined bases seen more xs ys first second =
    ap (in_cell_order bases) (map-append (cell_of_number bases) seen more)
    ∙ filter-same (has_cell (map (cell_of_number bases) seen ++ map (cell_of_number bases) more)) (has_cell ((xs ++ ys) ++ [])) (cells_of bases)
    (λ c inside.
    has-append (map (cell_of_number bases) seen) (map (cell_of_number bases) more) c
    ∙ ap (λ b. b || has_cell (map (cell_of_number bases) more) c) (has-ordered bases (map (cell_of_number bases) seen) (xs ++ []) first c inside)
    ∙ ap (λ b. has_cell (xs ++ []) c || b) (has-ordered bases (map (cell_of_number bases) more) (ys ++ []) second c inside)
    ∙ ap (λ (cells : List Cell). has_cell cells c || has_cell (ys ++ []) c) (append-nil xs)
    ∙ ap (λ (cells : List Cell). has_cell xs c || has_cell cells c) (append-nil ys)
    ∙ sym (ap (λ (cells : List Cell). has_cell cells c) (append-nil (xs ++ ys)) ∙ has-append xs ys c))

-- ---- slots

-- what became of a paragraph is told once
same-page : (job : Job) (stock : List Font) (a b : DoneAt) → IsDone job stock a → IsDone job stock b → a.place ≡ b.place → a.page ≡ b.page
same-page job stock a b p q same =
    let both : Some p.par ≡ Some q.par = sym p.here ∙ ap (slice_get job.pars) same ∙ q.here in
    let par : p.par ≡ q.par = cc in
    p.is ∙ ap (page_of_one job.tables (places_for job) stock) par ∙ sym q.is

one-stands : (job : Job) (stock : List Font) (slots : List Slot) (all : List DoneAt) (one : DoneAt) → All (IsDone job stock) all → IsDone job stock one → one.place < length slots
    → All (λ (e : DoneAt). slot_at slots e.place ≡ Some e.page) all
    → All (λ (e : DoneAt). slot_at (set slots one.place (Some one.page)) e.place ≡ Some e.page) (all ++ one ∷ [])
one-stands job stock slots all one each own inside stand =
    All-push (λ (e : DoneAt). slot_at (set slots one.place (Some one.page)) e.place ≡ Some e.page) all one
    (λ k d small. still (get_or all k d) (each k d small) (stand k d small))
    (get_or-set_same slots one.place (Some one.page) None inside)
  where
    still : (e : DoneAt) → IsDone job stock e → slot_at slots e.place ≡ Some e.page → slot_at (set slots one.place (Some one.page)) e.place ≡ Some e.page
    still e is at = dite (ℕ_discrete e.place one.place)
        (λ same.
        ap (slot_at (set slots one.place (Some one.page))) same
        ∙ get_or-set_same slots one.place (Some one.page) None inside
        ∙ ap (λ (page : Result Page ParFault). Some page) (same-page job stock one e own is (sym same)))
        (λ other. get_or-set_other slots one.place e.place (Some one.page) None other ∙ at)

is-inside : (job : Job) (stock : List Font) (slots : List Slot) (one : DoneAt) → length slots ≡ length job.pars → IsDone job stock one → one.place < length slots
is-inside job stock slots one count is = omega (arith, count, slice_get_within job.pars one.place is.par is.here)

pub all-inside : (job : Job) (stock : List Font) (slots : List Slot) (done : List DoneAt) → length slots ≡ length job.pars → All (IsDone job stock) done
    → All (λ (e : DoneAt). e.place < length slots) done
all-inside job stock slots done count each k d small = is-inside job stock slots (get_or done k d) count (each k d small)

pub filled-stand : (job : Job) (stock : List Font) (slots : List Slot) (all done : List DoneAt) → length slots ≡ length job.pars → All (IsDone job stock) all → All (IsDone job stock) done
    → All (λ (e : DoneAt). slot_at slots e.place ≡ Some e.page) all
    → All (λ (e : DoneAt). slot_at (filled slots done) e.place ≡ Some e.page) (all ++ done)
unfolding filled
filled-stand job stock slots all [] count each more stand =
    subst (λ (es : List DoneAt). All (λ (e : DoneAt). slot_at slots e.place ≡ Some e.page) es) (sym (append-nil all)) stand
filled-stand job stock slots all (one ∷ done) count each more stand =
    let own : IsDone job stock one = more 0 one (omega arith) in
    let inside : one.place < length slots = is-inside job stock slots one count own in
    let next = filled-stand job stock (set slots one.place (Some one.page)) (all ++ one ∷ []) done (length-set slots one.place (Some one.page) ∙ count)
    (All-push (IsDone job stock) all one each own) (λ k d small. more (suc k) d (omega arith)) (one-stands job stock slots all one each own inside stand) in
    subst (λ (es : List DoneAt). All (λ (e : DoneAt). slot_at (filled (set slots one.place (Some one.page)) done) e.place ≡ Some e.page) es) (append_assoc all (one ∷ []) done) next

pub length-filled : (slots : List Slot) (done : List DoneAt) → length (filled slots done) ≡ length slots
unfolding filled
length-filled slots [] = refl
length-filled slots (one ∷ done) = length-filled (set slots one.place (Some one.page)) done ∙ length-set slots one.place (Some one.page)

-- ---- joined seats

more-entries : (all done : List DoneAt) (place : ℕ) → HasEntry all place → HasEntry (all ++ done) place
more-entries all done place has = record { one = has.one; among = Contains-append_left all done has.one has.among; there = has.there }

-- each draw of a worker below the count has its entry
own-entry : (number count late : ℕ) (done : List DoneAt) → count ≤ late
    → All (λ (d : Drawn). d.draw < count → HasEntry done d.draw) (drawn_by number done ++ (record { draw = late; number = number }) ∷ [])
own-entry number count late done past =
    All-push (λ (d : Drawn). d.draw < count → HasEntry done d.draw) (drawn_by number done) (record { draw = late; number = number })
    (each done)
    (λ small. absurd (omega (arith, past, small)))
  where
    each : (es : List DoneAt) → All (λ (d : Drawn). d.draw < count → HasEntry es d.draw) (drawn_by number es)
    each [] = All-nil (λ (d : Drawn). d.draw < count → HasEntry [] d.draw)
    each (e ∷ es) =
        All-cons (λ (d : Drawn). d.draw < count → HasEntry (e ∷ es) d.draw) (drawn_one number e) (drawn_by number es)
        (λ small. record { one = e; among = (0, omega arith, refl); there = refl })
        (λ k d small below. let has = each es k d small below in record { one = has.one; among = Contains-append_right (e ∷ []) es has.one has.among; there = has.there })

-- what a worker has done, where memory sufficed
pub worked-of : (table : Standing) (job : Job) (stock : List Font) (work : Work) (done : Vec DoneAt Global) → IsWork table job stock work → work.done ≡ Ok done
    → HasWorked job stock (new_view table.bases table.draws work.seat.view.number) work.seat.view done.items
worked-of table job stock work done is ok =
    subst (λ (d : Result (Vec DoneAt Global) WantOfMemory). IfOk d (λ (x : Vec DoneAt Global). HasWorked job stock (new_view table.bases table.draws work.seat.view.number) work.seat.view x.items))
    ok is.done

pub gathered-none : (job : Job) (stock : List Font) (v : View) (slots : List Slot) → v.drawn ≡ [] → v.seen ≡ [] → v.claims ≡ [] → Gathered job stock v slots
unfolding cells_done
gathered-none job stock v slots drawn seen claims = record {
  all = [];
  each = All-nil (IsDone job stock);
  stand = All-nil (λ (e : DoneAt). slot_at slots e.place ≡ Some e.page);
  drawn = subst (λ (ds : List Drawn). All (λ (d : Drawn). d.draw < length job.pars → HasEntry [] d.draw) ds) (sym drawn) (All-nil (λ (d : Drawn). d.draw < length job.pars → HasEntry [] d.draw));
  asked = λ good. ap (touched_of v.bases) seen;
  claims = subst (λ (cs : List Claimed). All (λ e. e.number ≢ 0) cs) (sym claims) (All-nil (λ (e : Claimed). e.number ≢ 0));
}

good-parts : (all done : List DoneAt) → AreGood (all ++ done) → AreGood all × AreGood done
good-parts [] done good = (All-nil (λ (e : DoneAt). IsGood e.page), good)
good-parts (e ∷ all) done good =
    let rest = good-parts all done (λ k d small. good (suc k) d (omega arith)) in
    (All-cons (λ (x : DoneAt). IsGood x.page) e all (good 0 e (omega arith)) rest.0, rest.1)

pub gathered-more : (job : Job) (stock : List Font) (v w joined : View) (slots : List Slot) (draws number : ℕ) (done : List DoneAt) → length slots ≡ length job.pars
    → Gathered job stock v slots → HasWorked job stock (new_view v.bases draws number) w done → IsCarried w joined → joined ≡ joined_with v w
    → Gathered job stock joined (filled slots done)
unfolding cells_done
gathered-more job stock v w joined slots draws number done count before worked carried is =
    let all : List DoneAt = before.all in record {
      all = all ++ done;
      each = All-append (IsDone job stock) all done before.each worked.each;
      stand = filled-stand job stock slots all done count before.each worked.each before.stand;
      drawn =
          let P : Drawn → Type 0 = λ d. d.draw < length job.pars → HasEntry (all ++ done) d.draw in
          let own = own-entry number (length job.pars) worked.late done worked.past in
          let mine : All P v.drawn = λ k d small below. more-entries all done _ (before.drawn k d small below) in
          let theirs : All P w.drawn = subst (All P) (sym worked.drawn) (λ k d small below. let has = own k d small below in record { one = has.one; among = Contains-append_right all done has.one has.among; there = has.there }) in
          subst (All P) (sym (ap (λ (u : View). u.drawn) is)) (All-append P v.drawn w.drawn mine theirs);
      asked = λ good.
          let parts = good-parts all done good in
          let none : touched_of v.bases [] ≡ [] = in_cell_order-none v.bases in
          let theirs : touched_of v.bases w.seen ≡ touched_with v.bases (cells_done done) [] =
          good-asks job stock v.bases done (touched_of v.bases []) (touched_of v.bases w.seen) (sym (in_cell_order-again v.bases [])) parts.1 worked.asked
          ∙ ap (touched_with v.bases (cells_done done)) none in
          ap (λ (u : View). touched_of u.bases u.seen) is
          ∙ touched-joined v.bases v.seen w.seen (cells_done all) (cells_done done) (before.asked parts.0) theirs
          ∙ ap (λ (cells : List Cell). touched_with v.bases cells []) (sym (flat_map-append (λ (one : DoneAt). cells_if one.page) all done))
          ∙ ap (λ (u : View). touched_with u.bases (cells_done (all ++ done)) []) (sym is);
      claims =
          let P : Claimed → Type 0 = λ e. e.number ≢ 0 in
          subst (All P) (sym (ap (λ (u : View). u.claims) is))
          (All-append P v.claims w.claims before.claims (λ k d small zero. carried.not_first (sym (carried.claims k d small) ∙ zero)));
    }

-- a worker drew one number past the last
pub joined-past : (job : Job) (stock : List Font) (v w joined : View) (draws number : ℕ) (done : List DoneAt) → HasWorked job stock (new_view v.bases draws number) w done → joined ≡ joined_with v w
    → HasPast (length job.pars) joined
joined-past job stock v w joined draws number done worked is =
    let last : Drawn = record { draw = worked.late; number = number } in record {
      draw = last;
      among = subst (λ (ds : List Drawn). Contains ds last) (sym (ap (λ (u : View). u.drawn) is ∙ ap (λ (ds : List Drawn). v.drawn ++ ds) worked.drawn))
          (Contains-append_right v.drawn (drawn_by number done ++ last ∷ []) last (Contains-append_right (drawn_by number done) (last ∷ []) last (0, omega arith, refl)));
      past = worked.past;
    }
