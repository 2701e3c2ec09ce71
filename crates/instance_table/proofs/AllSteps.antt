-- The rule holds at the start, and after any steps.
use Rattle.std.proofs.Common.{◌≡◌, ℕ, zero, suc, ◌+◌, ◌*◌, ◌<◌, ◌≤◌, refl, ap, sym, ◌∙◌, subst, arith, List, [], ◌∷◌, length, replicate, get_or, Contains}
use Rattle.std.proofs.lemmas.Bool.{false≢true}
use Rattle.std.proofs.lemmas.List.Elements.{All-nil}
use mathlib.Core.Option.{some, some-injective, some-ne-none}
use lib.ListN.{get_elem?, length-replicate}
use Rattle.instance_core.specs.declared.font.BaseFont.{BaseFont}
use Rattle.instance_table.specs.declared.view.Claimed.{Claimed}
use Rattle.instance_table.specs.declared.view.Drawn.{Drawn}
use Rattle.instance_table.specs.declared.view.View.{View}
use Rattle.instance_table.specs.Places.{word_count, state, state_place}
use Rattle.instance_table.specs.Rule.{Rule, Fits, holding, IsSeen, IsReady}
use Rattle.instance_table.specs.Steps.{first_view, start, Table, Step, looks, wins, loses, stores, publishes, reads, draws as draws_one, splits, joins, Steps, none, more}
use Rattle.instance_table.proofs.TotalLemmas.{one_if-other, one_if-ge}
use Rattle.instance_table.proofs.CellSteps.{looked_keeps, lost_keeps, won_keeps, stored_keeps, published_keeps, read_keeps}
use Rattle.instance_table.proofs.SeatSteps.{drew_keeps, split_keeps, join_keeps, one_if-next}

only_first : (v u : View) (j : ℕ) → get_elem? (v ∷ []) j ≡ some u → v ≡ u
only_first v u zero e = some-injective v u e
only_first v u (suc j) e = absurd (some-ne-none u (sym e))

first_fits : (bases : List BaseFont) (draws : ℕ) (words : List ℕ) → Fits bases draws 1 words (first_view bases draws)
first_fits bases draws words = record {
  bases_same = refl;
  draws_same = refl;
  first = λ e. refl;
  other = λ e. refl;
  joined_some = refl;
  builds_one = tt;
  seen_cells = All-nil (IsSeen bases words);
  ready_cells = All-nil (IsReady bases words);
  claims_seen = All-nil (λ (e : Claimed). Contains [] e.cell);
  claims_own = All-nil (λ (e : Claimed). 1 ≤ holding e.number (first_view bases draws));
  draws_own = All-nil (λ (e : Drawn). 1 ≤ holding e.number (first_view bases draws));
  not_late = λ e. refl;
}

-- a table whose words are all 0, with the first seat
pub blank_rule : (bases : List BaseFont) (draws : ℕ) (words : List ℕ) → draws < 4294967296 → length words ≡ word_count bases
    → ((k : ℕ) → get_or words k 0 ≡ 0) → Rule bases draws words (first_view bases draws ∷ [])
blank_rule bases draws words few size blank = record {
  made = 1;
  few_seats = omega arith;
  few_draws = few;
  size = size;
  live = λ j u there live. subst (Fits bases draws 1 words) (only_first (first_view bases draws) u j there) (first_fits bases draws words);
  joined = λ j u there gone. absurd (false≢true (ap (λ (x : View). x.spent) (only_first (first_view bases draws) u j there) ∙ gone));
  numbers = λ n. let next = one_if-next n 0 in let none_below = one_if-ge n 0 (omega arith) in omega arith;
  builders = λ c n small. let e = one_if-other (state words c) (n + 2) (λ k. let z = blank (state_place c) in omega arith) in omega arith;
  built = λ c small is. let z = blank (state_place c) in absurd (omega arith);
  claims = λ c small. let e = one_if-ge 0 (state words c) (let z = blank (state_place c) in omega arith) in omega arith;
  drawn = λ x. let e = one_if-ge x (get_or words 0 0) (let z = blank 0 in omega arith) in omega arith;
  late = λ n. omega arith;
}

pub zeros_are_zero : (n k : ℕ) → get_or (replicate {A = ℕ} n 0) k 0 ≡ 0
zeros_are_zero zero k = refl
zeros_are_zero (suc n) zero = refl
zeros_are_zero (suc n) (suc k) = zeros_are_zero n k

pub starts_ruled : (bases : List BaseFont) (draws : ℕ) → draws < 4294967296
    → Rule bases draws (start bases draws).words (start bases draws).views
starts_ruled bases draws few =
    blank_rule bases draws (replicate (word_count bases) 0) few (length-replicate (word_count bases) 0) (zeros_are_zero (word_count bases))

pub step_ruled : (bases : List BaseFont) (draws : ℕ) (s t : Table) → Step bases s t → Rule bases draws s.words s.views → Rule bases draws t.words t.views
step_ruled bases draws s t (looks seat v cell at free below) r = looked_keeps bases draws s.words s.views seat v r at cell below
step_ruled bases draws s t (wins seat v cell at free below empty) r = won_keeps bases draws s.words s.views seat v r at cell below free empty
step_ruled bases draws s t (loses seat v cell at free below full) r = lost_keeps bases draws s.words s.views seat v r at cell below
step_ruled bases draws s t (stores seat v b word at is small right) r = stored_keeps bases draws s.words s.views seat v r at b word is small right
step_ruled bases draws s t (publishes seat v b at is whole) r = published_keeps bases draws s.words s.views seat v r at b is whole
step_ruled bases draws s t (reads seat v cell code at ready few) r =
    read_keeps bases draws s.words s.views seat v r at cell code (get_or s.words (2 + 257 * cell + code) 0)
step_ruled bases draws s t (draws_one seat v at going) r = drew_keeps bases draws s.words s.views seat v r at going
step_ruled bases draws s t (splits seat v at first small) r = split_keeps bases draws s.words s.views seat v r at first small
step_ruled bases draws s t (joins seat other v w at theirs apart first free free') r =
    join_keeps bases draws s.words s.views seat v r at other w theirs apart first free free'

pub steps_ruled : (bases : List BaseFont) (draws : ℕ) (s t : Table) → Steps bases s t → Rule bases draws s.words s.views → Rule bases draws t.words t.views
steps_ruled bases draws s t none r = r
steps_ruled bases draws s t (more {t = m} before step) r = step_ruled bases draws m t step (steps_ruled bases draws s m before r)
