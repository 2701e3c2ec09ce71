-- The ways from place to place.
--     IsLineFrom, lines_are         each line to a place is one from an open way, recorded or rescued
--     ways_place, lines_place       where ways end
--     ways_bound                    no total reaches the bound
--     ways_low                      nor falls below the least demerits as often as there are lines
--     next_open                     what is open to the next place: what was open and doesn't die, and the new lines that stand
use Rattle.std.proofs.Common.{subst, ◌≡◌, ℕ, zero, suc, ◌<◌, ◌≤◌, Bool, true, false, not, ◌&&◌, ◌||◌, List, ◌++◌, filter, ℤ, pos, ◌+ℤ◌, ◌<ℤ◌, refl, sym, ap, ◌∙◌, inl, inr, ⊎_elim, arith, ◌*◌, Some, None, neg_ℤ, Option, ◌+◌, ◌≤ℤ◌}
use Rattle.std.specs.Prelude.{◌⊎◌, int_le}
use Rattle.std.specs.List.{list_all}
use Rattle.std.proofs.lemmas.Bool.{and_parts, and_from, and_left, or_left, le-leb, lt-leb, ne_eqb, not_from_false}
use Rattle.std.proofs.Math.Bool.{and-true, and_assoc}
use Rattle.std.proofs.lemmas.List.Elements.{filter-append}
use Rattle.std.proofs.lemmas.List.Folds.{list_all-append}
use Rattle.std.proofs.lemmas.Int.{ints}
use Rattle.line_break.specs.declared.node.Node.{Node}
use Rattle.line_break.specs.declared.node.Way.{Way}
use Rattle.line_break.specs.Members.{Among}
use Rattle.line_break.specs.Pass.{Pass, group_of_line, next_group}
use Rattle.line_break.specs.Ways.{start, extended, dies, lives, same_start, stands, open_ways, records, is_last, rescued, lines_to, ways, awful_bad}
use Rattle.line_break.proofs.MemberLemmas.{Among-append_cases, Among-passes, Among-mapped, all_from, filter_same, filter_twice}
use Rattle.line_break.proofs.OrderLemmas.{int_lt-true}
use Rattle.line_break.proofs.Covering.{lines_by}

-- w is the way v followed by a line to a place, and why
pub record IsLineFrom (q : Pass) (to : ℕ) (ws : List Way) (w : Way) : Type 0 where
  pub before : Way
  pub added : ℤ
  pub source : Among ws before
  pub made : w ≡ extended q to added before
  pub cause : ((rescued q to ws ≡ true) × (added ≡ pos 0)) ⊎ ((rescued q to ws ≡ false) × (records q to before ≡ true) × (added ≡ q.demerits before.last to))

module _ (q : Pass) where
  lines_by_are : (to : ℕ) (ws : List Way) (t : Bool) → rescued q to ws ≡ t → (w : Way) → Among (lines_by q to t ws) w → IsLineFrom q to ws w
  unfolding lines_by
  lines_by_are to ws true e w m =
      let k = Among-mapped (extended q to (pos 0)) (filter (is_last q ws) ws) w m in
      record { before = k.0; added = pos 0; source = (Among-passes (is_last q ws) ws k.0 k.1).0; made = k.2; cause = inl (e, refl) }
  lines_by_are to ws false e w m =
      let k = Among-mapped (λ v. extended q to (q.demerits v.last to) v) (filter (records q to) ws) w m in
      let p = Among-passes (records q to) ws k.0 k.1 in
      record { before = k.0; added = q.demerits k.0.last to; source = p.0; made = k.2; cause = inr (e, p.1, refl) }

  pub lines_are : (to : ℕ) (ws : List Way) (w : Way) → Among (lines_to q to ws) w → IsLineFrom q to ws w
  unfolding lines_to lines_by
  lines_are to ws w m = lines_by_are to ws (rescued q to ws) refl w m

  made_place : (to : ℕ) (d : ℤ) (v : Way) → (extended q to d v).last.place ≡ to
  unfolding extended
  made_place to d v = refl

  made_total : (to : ℕ) (d : ℤ) (v : Way) → (extended q to d v).total ≡ v.total +ℤ d
  unfolding extended
  made_total to d v = refl

  pub lines_place : (to : ℕ) (ws : List Way) (w : Way) → Among (lines_to q to ws) w → w.last.place ≡ to
  lines_place to ws w m =
      let f = lines_are to ws w m in
      ap (λ (v : Way). v.last.place) f.made ∙ made_place to f.added f.before

  pub open_source : (to : ℕ) (ws : List Way) (w : Way) → Among (open_ways q to ws) w → Among ws w
  unfolding open_ways
  open_source to ws w m = (Among-passes (λ v. stands q ws v && lives q to v.last) ws w m).0

  pub ways_place : (k : ℕ) (w : Way) → Among (ways q k) w → w.last.place ≤ k
  unfolding ways start
  ways_place zero w (inl e) = let p = ap (λ (v : Way). v.last.place) e in omega arith
  ways_place zero w (inr m) = absurd m
  ways_place (suc k) w m =
      ⊎_elim
      (λ (old : Among (ways q k) w). let p = ways_place k w old in omega arith)
      (λ (new : Among (lines_to q (suc k) (open_ways q (suc k) (ways q k))) w). let p = lines_place (suc k) _ w new in omega arith)
      (Among-append_cases (ways q k) _ w m)

  records_bound : (to : ℕ) (v : Way) → records q to v ≡ true → (v.total +ℤ q.demerits v.last to) <ℤ pos awful_bad
  unfolding records
  records_bound to v e = int_lt-true (v.total +ℤ q.demerits v.last to) (pos awful_bad) (and_parts _ _ e).1

  -- a rescue adds nothing, so that no line's total reaches the bound where none before does
  pub lines_bound : (to : ℕ) (ws : List Way) → ((v : Way) → Among ws v → v.total <ℤ pos awful_bad) → (w : Way) → Among (lines_to q to ws) w → w.total <ℤ pos awful_bad
  lines_bound to ws low w m =
      let f = lines_are to ws w m in
      let total = ap (λ (v : Way). v.total) f.made ∙ made_total to f.added f.before in
      ⊎_elim
      (λ (r : (rescued q to ws ≡ true) × (f.added ≡ pos 0)). let l = low f.before f.source in omega (arith, ints))
      (λ (r : (rescued q to ws ≡ false) × (records q to f.before ≡ true) × (f.added ≡ q.demerits f.before.last to)). let l = records_bound to f.before r.1 in omega (arith, ints))
      f.cause

  pub ways_bound : (k : ℕ) (w : Way) → Among (ways q k) w → w.total <ℤ pos awful_bad
  unfolding ways start
  ways_bound zero w (inl e) = let t = ap (λ (v : Way). v.total) e in omega (arith, ints)
  ways_bound zero w (inr m) = absurd m
  ways_bound (suc k) w m =
      ⊎_elim
      (λ (old : Among (ways q k) w). ways_bound k w old)
      (λ (new : Among (lines_to q (suc k) (open_ways q (suc k) (ways q k))) w).
      lines_bound (suc k) (open_ways q (suc k) (ways q k)) (λ v s. ways_bound k v (open_source (suc k) (ways q k) v s)) w new)
      (Among-append_cases (ways q k) _ w m)

  -- a node lives up to the place after its own
  pub lives_new : (to : ℕ) (x : Node) → to ≤ suc x.place → lives q to x ≡ true
  unfolding lives
  lives_new zero x h = refl
  lives_new (suc to) x h =
      and_from _ _ (lives_new to x (omega arith)) (or_left _ _ (le-leb to x.place (omega arith)))

  lives_more : (to : ℕ) (x : Node) → x.place < to → lives q (suc to) x ≡ (lives q to x && not (dies q to x))
  unfolding lives
  lives_more to x h = let past = lt-leb to x.place h in rw past refl

  apart : (x y : Node) → (x.place ≡ y.place → ⊥) → same_start x y ≡ false
  apart x y h = and_left _ _ (ne_eqb x.place y.place h)

  stands_old : (k : ℕ) (old new : List Way) (w : Way) → w.last.place ≤ k → ((v : Way) → Among new v → v.last.place ≡ suc k) → stands q (old ++ new) w ≡ stands q old w
  unfolding stands
  stands_old k old new w here there =
      let good : Way → Bool = λ v. not (same_start v.last w.last) || int_le w.total (v.total +ℤ pos q.slack) in
      let free = all_from good new (λ v m. let p = there v m in or_left _ _ (not_from_false _ (apart v.last w.last (λ e. omega arith)))) in
      list_all-append good old new ∙ (ap (λ b. list_all good old && b) free ∙ and-true (list_all good old))

  stands_new : (k : ℕ) (old new : List Way) (w : Way) → w.last.place ≡ suc k → ((v : Way) → Among old v → v.last.place ≤ k) → stands q (old ++ new) w ≡ stands q new w
  unfolding stands
  stands_new k old new w here there =
      let good : Way → Bool = λ v. not (same_start v.last w.last) || int_le w.total (v.total +ℤ pos q.slack) in
      let free = all_from good old (λ v m. let p = there v m in or_left _ _ (not_from_false _ (apart v.last w.last (λ e. omega arith)))) in
      list_all-append good old new ∙ ap (λ b. b && list_all good new) free

  abbrev pub stays : ℕ → Way → Bool
  stays to w = not (dies q to w.last)

  next_open_by : (k : ℕ) (old new : List Way) → ((w : Way) → Among old w → w.last.place ≤ k) → ((w : Way) → Among new w → w.last.place ≡ suc k)
      → open_ways q (suc (suc k)) (old ++ new) ≡ filter (stays (suc k)) (open_ways q (suc k) old) ++ filter (stands q new) new
  unfolding open_ways
  next_open_by k old new low high =
      let good : Way → Bool = λ w. stands q (old ++ new) w && lives q (suc (suc k)) w.last in
      let open_before : Way → Bool = λ w. stands q old w && lives q (suc k) w.last in
      let first : filter good old ≡ filter (λ w. open_before w && stays (suc k) w) old =
      filter_same good (λ w. open_before w && stays (suc k) w) old (λ w m.
      let here = low w m in
      let on = lives_more (suc k) w.last (omega arith) in
      rw (stands_old k old new w here high, on) (sym (and_assoc (stands q old w) (lives q (suc k) w.last) (not (dies q (suc k) w.last))))) in
      let second : filter good new ≡ filter (stands q new) new =
      filter_same good (stands q new) new (λ w m.
      let here = high w m in
      rw (stands_new k old new w here low, lives_new (suc (suc k)) w.last (omega arith)) (and-true (stands q new w))) in
      filter-append good old new
      ∙ (ap (λ ws. ws ++ filter good new) (first ∙ sym (filter_twice open_before (stays (suc k)) old))
      ∙ ap (λ ws. filter (stays (suc k)) (filter open_before old) ++ ws) second)

  pub next_open : (k : ℕ)
      → open_ways q (suc (suc k)) (ways q (suc k))
      ≡ filter (stays (suc k)) (open_ways q (suc k) (ways q k)) ++ filter (stands q (lines_to q (suc k) (open_ways q (suc k) (ways q k)))) (lines_to q (suc k) (open_ways q (suc k) (ways q k)))
  unfolding ways
  next_open k = next_open_by k (ways q k) (lines_to q (suc k) (open_ways q (suc k) (ways q k))) (ways_place k) (lines_place (suc k) (open_ways q (suc k) (ways q k)))

next_le : (ended : Option ℕ) (group : ℕ) → next_group ended group ≤ group + 1
next_le None group = omega arith
next_le (Some last) group = omega arith

first_le : (ended : Option ℕ) → group_of_line ended 1 ≤ 1
first_le None = omega arith
first_le (Some last) = omega arith

-- the totals and groups of all ways, where no line's demerits are below a bound
module _ (q : Pass) (least : ℕ) (low : (x : Node) (to : ℕ) → neg_ℤ (pos least) ≤ℤ q.demerits x to) where
  abbrev pub IsLow : ℕ → Way → Type 0
  IsLow place w = (neg_ℤ (pos (least * place)) ≤ℤ w.total) × (w.last.group ≤ suc place)

  less_low : (place : ℕ) (a b : ℤ) → neg_ℤ (pos least) ≤ℤ b → neg_ℤ (pos (least * place)) ≤ℤ a → neg_ℤ (pos (least * suc place)) ≤ℤ (a +ℤ b)
  less_low place a b h l = let e : least * suc place ≡ least * place + least = omega arith in omega (arith, ints)

  extended_low : (place : ℕ) (v : Way) (d : ℤ) → neg_ℤ (pos least) ≤ℤ d → IsLow place v → IsLow (suc place) (extended q (suc place) d v)
  unfolding extended
  extended_low place v d h l = (less_low place v.total d h l.0, let n = next_le q.open_ended v.last.group in omega arith)

  pub ways_low : (place : ℕ) (w : Way) → Among (ways q place) w → IsLow place w
  unfolding ways start
  ways_low zero w (inl e) =
      let t = ap (λ (v : Way). v.total) e in
      let g = ap (λ (v : Way). v.last.group) e in
      let f = first_le q.open_ended in
      (omega (arith, ints), omega arith)
  ways_low zero w (inr m) = absurd m
  ways_low (suc place) w m = ⊎_elim
      (λ (old : Among (ways q place) w). let h = ways_low place w old in (let more : least * place ≤ least * suc place = omega arith in omega (arith, ints), omega arith))
      (λ (new : Among (lines_to q (suc place) (open_ways q (suc place) (ways q place))) w).
      let f = lines_are q (suc place) (open_ways q (suc place) (ways q place)) w new in
      let h = ways_low place f.before (open_source q (suc place) (ways q place) f.before f.source) in
      let d : neg_ℤ (pos least) ≤ℤ f.added = ⊎_elim
      (λ (r : (rescued q (suc place) (open_ways q (suc place) (ways q place)) ≡ true) × (f.added ≡ pos 0)). omega (arith, ints))
      (λ (r : (rescued q (suc place) (open_ways q (suc place) (ways q place)) ≡ false) × (records q (suc place) f.before ≡ true) × (f.added ≡ q.demerits f.before.last (suc place))).
      let l = low f.before.last (suc place) in omega (arith, ints))
      f.cause in
      subst (IsLow (suc place)) (sym f.made) (extended_low place f.before f.added d h))
      (Among-append_cases (ways q place) (lines_to q (suc place) (open_ways q (suc place) (ways q place))) w m)
