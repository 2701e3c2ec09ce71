-- One turn of a worker: it draws a number, and sets the paragraph there.
--     drawn-below, drawn-past    what a draw answers
--     next_draw                  1 more than the greatest number that was drawn
--     asks-push, done-push       one more entry
--     set-at, touched-at         what setting the paragraph at a place answers and asks
use Rattle.std.proofs.Common.{◌≡◌, ℕ, suc, ◌+◌, ◌<◌, ◌≤◌, refl, ap, sym, ◌∙◌, subst, arith, Bool, true, false, List, [], ◌∷◌, ◌++◌, length, get_or, max, Some, None, append_assoc, ◌-◌, ◌⊎◌, inl, inr, Result, Err}
use Rattle.std.specs.Prelude.{All, IfOk, slice_get, nat_lt, nat_le, if◌then◌else◌}
use Rattle.std.proofs.lemmas.Bool.Decides.{nat_tests}
use Rattle.std.proofs.lemmas.List.{map-append}
use Rattle.std.proofs.lemmas.Option.{slice_get_read}
use Rattle.font_stock.specs.declared.font.Font.{Font}
use Rattle.micro_num.specs.declared.paragraph.Par.{Par}
use Rattle.hlist_build.specs.declared.fault.ParFault.{ParFault}
use Rattle.hlist_build.specs.declared.fault.ParFault.TheVariants.{NoMemory}
use Rattle.hlist_hyph.specs.Hyphenated.{places_in}
use Rattle.liang_hyph.specs.Table.{IsMadeOf, PatternTable}
use Rattle.instance_core.specs.declared.cell.Cell.{Cell}
use Rattle.instance_core.specs.declared.font.BaseFont.{BaseFont}
use Rattle.instance_core.specs.declared.page.Packed.{Packed}
use Rattle.instance_core.specs.declared.page.Page.{Page}
use Rattle.instance_table.specs.declared.view.Drawn.{Drawn}
use Rattle.instance_table.specs.declared.view.View.{View}
use Rattle.instance_table.specs.Seats.{DrawsOne}
use Rattle.instance_table.specs.Steps.{drew}
use Rattle.job_text.specs.declared.job.Job.{Job}
use Rattle.para_threads.specs.declared.done.DoneAt.{DoneAt}
use Rattle.para_workers.specs.Fitting.{IsPageOver}
use Rattle.para_workers.specs.Pages.{page_of_one}
use Rattle.para_workers.specs.SetPar.{lines_of_par, set_par}
use Rattle.para_workers.specs.Touched.{TouchedByPage}
use Rattle.para_threads.specs.Working.{AsksForAll, IsSetAt, drawn_by, drawn_one, lines_at, lines_of_some, wants_memory}
use Rattle.para_workers.proofs.JobLaws.{lines_of_par-made, set_par-made}

-- ---- draws

word-below : (word draws place : ℕ) → Some place ≡ (if nat_lt word draws then Some word else None) → (word < draws) × (word ≡ place)
word-below word draws place is = either (nat_lt word draws) refl is
  where
    either : (b : Bool) → nat_lt word draws ≡ b → Some place ≡ (if b then Some word else None) → (word < draws) × (word ≡ place)
    either true known same = (grind (arith, nat_tests), cc)
    either false known same = absurd cc

word-past : (word draws : ℕ) → None ≡ (if nat_lt word draws then Some word else None) → draws ≤ word
word-past word draws is = either (nat_lt word draws) refl is
  where
    either : (b : Bool) → nat_lt word draws ≡ b → None ≡ (if b then Some word else None) → draws ≤ word
    either true known same = absurd cc
    either false known same = grind (arith, nat_tests)

not-late : (word draws : ℕ) → word < draws → nat_le draws word ≡ false
not-late word draws below = grind (arith, nat_tests)

late : (word draws : ℕ) → draws ≤ word → nat_le draws word ≡ true
late word draws past = grind (arith, nat_tests)

-- a number below the draws was drawn
pub drawn-below : (v w : View) (place : ℕ) → DrawsOne v (Some place) w → (place < v.draws) × (w ≡ drew v place) × (w.ended ≡ false)
drawn-below v w place draws =
    let word = word-below draws.word v.draws place draws.by_word in
    let view : w ≡ drew v place = draws.view ∙ ap (drew v) word.1 in
    let below : place < v.draws = omega (arith, word.0, word.1) in
    (below, view, ap (λ (u : View). u.ended) view ∙ not-late place v.draws below)

-- one past the last was drawn
pub record IsPast (v w : View) : Type 0 where
  pub word : ℕ
  pub past : v.draws ≤ word
  pub view : w ≡ drew v word
  pub ended : w.ended ≡ true

pub drawn-past : (v w : View) → DrawsOne v None w → IsPast v w
drawn-past v w draws =
    let past = word-past draws.word v.draws draws.by_word in
    record {
      word = draws.word;
      past = past;
      view = draws.view;
      ended = ap (λ (u : View). u.ended) draws.view ∙ late draws.word v.draws past;
    }

pub next_draw : List Drawn → ℕ
next_draw [] = 0
next_draw (d ∷ ds) = max (d.draw + 1) (next_draw ds)

next-below : (ds : List Drawn) (word : ℕ) → All (λ d. d.draw < word) ds → next_draw ds ≤ word
unfolding next_draw
next-below [] word each = omega arith
next-below (d ∷ ds) word each =
    let first : d.draw < word = each 0 d (omega arith) in
    let rest : next_draw ds ≤ word = next-below ds word (λ k e small. each (suc k) e (omega arith)) in
    omega arith

next-push : (ds : List Drawn) (d : Drawn) → d.draw + 1 ≤ next_draw (ds ++ d ∷ [])
unfolding next_draw
next-push [] d = omega arith
next-push (e ∷ ds) d = let rest = next-push ds d in omega arith

-- a seat's draws rise
pub fewer-left : (v w : View) (place : ℕ) → DrawsOne v (Some place) w → (all : ℕ) → v.draws ≡ all → all - next_draw w.drawn < all - next_draw v.drawn
fewer-left v w place draws all is =
    let word = word-below draws.word v.draws place draws.by_word in
    let before : next_draw v.drawn ≤ draws.word = next-below v.drawn draws.word draws.rises in
    let after : draws.word + 1 ≤ next_draw w.drawn =
    subst (λ (ds : List Drawn). draws.word + 1 ≤ next_draw ds) (sym (ap (λ (u : View). u.drawn) draws.view)) (next-push v.drawn (record { draw = draws.word; number = v.number })) in
    omega (arith, before, after, word.0, is)

-- ---- entries

pub asks-push : (job : Job) (stock : List Font) (bases : List BaseFont) (done : List DoneAt) (one : DoneAt) (before between after : List Cell)
    → AsksForAll job stock bases done before between → TouchedByPage (lines_at job stock one.place) bases between after one.page
    → AsksForAll job stock bases (done ++ one ∷ []) before after
unfolding AsksForAll
asks-push job stock bases [] one before between after here last =
    (after, subst (λ (cells : List Cell). TouchedByPage (lines_at job stock one.place) bases cells after one.page) here last, refl)
asks-push job stock bases (d ∷ done) one before between after here last =
    (here.0, here.1, asks-push job stock bases done one here.0 between after here.2 last)

pub asks-none : (job : Job) (stock : List Font) (bases : List BaseFont) (cells : List Cell) → AsksForAll job stock bases [] cells cells
unfolding AsksForAll
asks-none job stock bases cells = refl

-- the draws of one more entry
pub draws-push : (number : ℕ) (first before after : List Drawn) (done : List DoneAt) (one : DoneAt) → before ≡ first ++ drawn_by number done → after ≡ before ++ drawn_one number one ∷ []
    → after ≡ first ++ drawn_by number (done ++ one ∷ [])
draws-push number first before after done one is more =
    more ∙ ap (λ ds. ds ++ drawn_one number one ∷ []) is
    ∙ append_assoc first (drawn_by number done) (drawn_one number one ∷ [])
    ∙ ap (λ ds. first ++ ds) (sym (map-append (drawn_one number) done (one ∷ [])))

-- ---- one paragraph

pub here-at : (pars lent : List Par) (place : ℕ) (par : Par) → lent ≡ pars → place < length pars → par ≡ get_or lent place par → slice_get pars place ≡ Some par
here-at pars lent place par same inside is =
    slice_get_read pars (length pars) place par refl inside (is ∙ ap (λ (ps : List Par). get_or ps place par) same)

pub set-at : (job : Job) (stock : List Font) (table : PatternTable) (place : ℕ) (par : Par) (page : Result Page ParFault) → IsMadeOf table job.patterns job.exceptions
    → slice_get job.pars place ≡ Some par → IfOk page (IsPageOver stock)
    → (page ≡ set_par par job.tables (places_in table par.params) stock) ⊎ (page ≡ Err NoMemory)
    → IsSetAt job stock place page ⊎ (page ≡ Err NoMemory)
unfolding page_of_one
set-at job stock table place par page made here over (inl is) =
    inl (record { par = par; here = here; is = is ∙ set_par-made table job stock par made; over = over })
set-at job stock table place par page made here over (inr none) = inr none

pub touched-at : (job : Job) (stock : List Font) (table : PatternTable) (place : ℕ) (par : Par) (page : Result Page ParFault)
    (bases bases' : List BaseFont) (before before' after after' : List Cell) → IsMadeOf table job.patterns job.exceptions
    → slice_get job.pars place ≡ Some par → bases ≡ bases' → before ≡ before' → after ≡ after'
    → TouchedByPage (lines_of_par par job.tables (places_in table par.params) stock) bases before after page
    → TouchedByPage (lines_at job stock place) bases' before' after' page
touched-at job stock table place par page bases bases' before before' after after' made here fonts first last touched =
    let lines : lines_of_par par job.tables (places_in table par.params) stock ≡ lines_at job stock place =
    lines_of_par-made table job stock par made ∙ ap (lines_of_some job stock) (sym here) in
    subst (λ (ls : List Packed). TouchedByPage ls bases' before' after' page) lines
    (subst (λ (fs : List BaseFont). TouchedByPage (lines_of_par par job.tables (places_in table par.params) stock) fs before' after' page) fonts
    (subst (λ (cs : List Cell). TouchedByPage (lines_of_par par job.tables (places_in table par.params) stock) bases cs after' page) first
    (subst (λ (cs : List Cell). TouchedByPage (lines_of_par par job.tables (places_in table par.params) stock) bases before cs page) last touched)))

pub not-none : (job : Job) (stock : List Font) (place : ℕ) (page : Result Page ParFault) → IsSetAt job stock place page ⊎ (page ≡ Err NoMemory) → wants_memory page ≡ false
    → IsSetAt job stock place page
not-none job stock place page (inl is) some = is
not-none job stock place page (inr none) some =
    let never : true ≡ false = ap wants_memory (sym none) ∙ some in
    absurd cc
