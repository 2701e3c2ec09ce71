-- Few ways that cover many: each of the many has one of the few at its node that the preference doesn't put after it.
-- What a place does with the few covers what it does with the many.
--     Covers                                    the relation
--     covers-itself, -trans, -append, -members  it is an order, and speaks of members alone
--     covers-filter, -extended                  it is kept by tests that a preferred way passes too, and by further lines
--     covers_all, covers_empty                  a test of nodes and emptiness don't tell the few from the many
--     stands_same, covers-standing              nor do the totals that are good enough
--     rescued_same, covers-lines                so the lines to a place are covered
use Rattle.std.proofs.Common.{◌≡◌, ℕ, Bool, true, false, cond, not, ◌||◌, List, [], ◌∷◌, ◌++◌, map, filter, Option, ℤ, pos, ◌+ℤ◌, ◌≤ℤ◌, refl, sym, ap, ◌∙◌, subst, inl, ⊎_elim, arith}
use Rattle.std.specs.Prelude.{int_le}
use Rattle.std.specs.List.{list_all}
use Rattle.std.specs.Ordering.{is_lt, is_gt}
use Rattle.std.proofs.lemmas.Bool.{and_parts, and_from, or_cases, or_left, or_right}
use Rattle.std.proofs.lemmas.Int.{ints}
use Rattle.std.proofs.lemmas.Cmp.{upto}
use Rattle.line_break.specs.declared.node.Node.{Node}
use Rattle.line_break.specs.declared.node.Way.{Way}
use Rattle.line_break.specs.Members.{Among, is_empty}
use Rattle.line_break.specs.Pass.{Pass, order}
use Rattle.line_break.specs.Ways.{extended, dies, same_start, stands, records, is_last, rescued, lines_to, awful_bad}
use Rattle.line_break.specs.Best.{preference}
use Rattle.line_break.proofs.MemberLemmas.{Among-append_left, Among-append_right, Among-append_cases, Among-filter, Among-passes, Among-map, Among-mapped, all_at, all_from, all_same, filter_same, itself_not_greater}
use Rattle.line_break.proofs.OrderLemmas.{int_le-true, le-int_le, int_lt-true, lt-int_lt, preference_total, preferred_total, preference-extended, extended_node}

-- w, or one at its node that the preference doesn't put after it
abbrev pub HasNoWorse : Option ℕ → List Way → Way → Type 0
HasNoWorse ended few w = (f : Way) × Among few f × (f.last ≡ w.last) × (is_gt (preference ended f w) ≡ false)

pub record Covers (ended : Option ℕ) (few many : List Way) : Type 0 where
  pub within : (w : Way) → Among few w → Among many w
  pub covered : (w : Way) → Among many w → HasNoWorse ended few w

pub bool_same : (a b : Bool) → (a ≡ true → b ≡ true) → (b ≡ true → a ≡ true) → a ≡ b
bool_same true b f g = sym (f refl)
bool_same false true f g = g refl
bool_same false false f g = refl

module _ {ended : Option ℕ} where
  pub covers-itself : (ws : List Way) → Covers ended ws ws
  covers-itself ws = record { within = λ w m. m; covered = λ w m. (w, m, refl, itself_not_greater (preference_total ended) w) }

  pub covers-trans : {few some many : List Way} → Covers ended few some → Covers ended some many → Covers ended few many
  covers-trans a b = record {
    within = λ w m. b.within w (a.within w m);
    covered = λ w m.
        let s = b.covered w m in
        let f = a.covered s.0 s.1 in
        (f.0, f.1, f.2 ∙ s.2, upto (preference_total ended) f.0 s.0 w f.3 s.3);
  }

  pub covers-members : {few many others : List Way} → ((w : Way) → Among many w → Among others w) → ((w : Way) → Among others w → Among many w) → Covers ended few many → Covers ended few others
  covers-members there back a = record { within = λ w m. there w (a.within w m); covered = λ w m. a.covered w (back w m) }

  pub covers-append : {few many few' many' : List Way} → Covers ended few many → Covers ended few' many' → Covers ended (few ++ few') (many ++ many')
  covers-append {few} {many} {few'} {many'} a b = record {
    within = λ w m. ⊎_elim (λ l. Among-append_left many many' w (a.within w l)) (λ r. Among-append_right many many' w (b.within w r)) (Among-append_cases few few' w m);
    covered = λ w m. ⊎_elim
        (λ (l : Among many w). let f = a.covered w l in (f.0, Among-append_left few few' f.0 f.1, f.2, f.3))
        (λ (r : Among many' w). let f = b.covered w r in (f.0, Among-append_right few few' f.0 f.1, f.2, f.3))
        (Among-append_cases many many' w m);
  }

  pub covers-filter : (p : Way → Bool) {few many : List Way} → ((f w : Way) → f.last ≡ w.last → is_gt (preference ended f w) ≡ false → p w ≡ true → p f ≡ true) → Covers ended few many → Covers ended (filter p few) (filter p many)
  covers-filter p {few} {many} keeps a = record {
    within = λ w m. let k = Among-passes p few w m in Among-filter p many w (a.within w k.0) k.1;
    covered = λ w m.
        let k = Among-passes p many w m in
        let f = a.covered w k.0 in
        (f.0, Among-filter p few f.0 f.1 (keeps f.0 w f.2 f.3 k.1), f.2, f.3);
  }

  pub covers_all : (p : Node → Bool) {few many : List Way} → Covers ended few many → list_all (λ w. p w.last) few ≡ list_all (λ w. p w.last) many
  covers_all p {few} {many} a =
      bool_same _ _
      (λ h. all_from (λ w. p w.last) many (λ w m. let f = a.covered w m in sym (ap p f.2) ∙ all_at (λ v. p v.last) few f.0 h f.1))
      (λ h. all_from (λ w. p w.last) few (λ w m. all_at (λ v. p v.last) many w h (a.within w m)))

  pub covers_empty : (few many : List Way) → Covers ended few many → is_empty few ≡ is_empty many
  covers_empty [] [] a = refl
  covers_empty [] (w ∷ ws) a = absurd (a.covered w (inl refl)).1
  covers_empty (w ∷ ws) [] a = absurd (a.within w (inl refl))
  covers_empty (w ∷ ws) (v ∷ vs) a = refl

module _ (q : Pass) where
  abbrev pub by_end : List Way → List Way → Type 0
  by_end = Covers q.open_ended

  -- further lines whose demerits depend on the node alone
  pub covers-extended : (to : ℕ) (d : Node → ℤ) {few many : List Way} → by_end few many → by_end (map (λ w. extended q to (d w.last) w) few) (map (λ w. extended q to (d w.last) w) many)
  covers-extended to d {few} {many} a =
      let more : Way → Way = λ w. extended q to (d w.last) w in
      record {
        within = λ w m. let k = Among-mapped more few w m in subst (Among (map more many)) (sym k.2) (Among-map more many k.0 (a.within k.0 k.1));
        covered = λ w m.
            let k = Among-mapped more many w m in
            let f = a.covered k.0 k.1 in
            subst (HasNoWorse q.open_ended (map more few)) (sym k.2) (
              more f.0,
              Among-map more few f.0 f.1,
              extended_node q to (d f.0.last) (d k.0.last) f.0 k.0 f.2,
              subst (λ x. is_gt (preference q.open_ended (extended q to (d x) f.0) (more k.0)) ≡ false) (sym f.2)
                  (ap is_gt (preference-extended q to (d k.0.last) f.0 k.0 f.2) ∙ f.3),
            );
      }

  -- a way stands where one at its node stands that has no lower total
  stands_below : (ws : List Way) (f w : Way) → f.last ≡ w.last → f.total ≤ℤ w.total → stands q ws w ≡ true → stands q ws f ≡ true
  unfolding stands
  stands_below ws f w e t h =
      all_from (λ v. not (same_start v.last f.last) || int_le f.total (v.total +ℤ pos q.slack)) ws (λ v m.
      ⊎_elim
      (λ (apart : not (same_start v.last w.last) ≡ true). or_left _ _ (ap (λ x. not (same_start v.last x)) e ∙ apart))
      (λ (good : int_le w.total (v.total +ℤ pos q.slack) ≡ true).
      let le = int_le-true w.total (v.total +ℤ pos q.slack) good in
      or_right _ _ (le-int_le f.total (v.total +ℤ pos q.slack) (omega (arith, ints))))
      (or_cases _ _ (all_at (λ v. not (same_start v.last w.last) || int_le w.total (v.total +ℤ pos q.slack)) ws v h m)))

  pub stands_same : {few many : List Way} → by_end few many → (w : Way) → stands q few w ≡ stands q many w
  unfolding stands
  stands_same {few} {many} a w =
      let good : Way → Bool = λ v. not (same_start v.last w.last) || int_le w.total (v.total +ℤ pos q.slack) in
      bool_same (list_all good few) (list_all good many)
      (λ h. all_from good many (λ v m.
      let f = a.covered v m in
      let t = preferred_total q.open_ended f.0 v f.3 in
      ⊎_elim
      (λ (apart : not (same_start f.0.last w.last) ≡ true). or_left _ _ (ap (λ x. not (same_start x w.last)) (sym f.2) ∙ apart))
      (λ (near : int_le w.total (f.0.total +ℤ pos q.slack) ≡ true).
      let le = int_le-true w.total (f.0.total +ℤ pos q.slack) near in
      or_right _ _ (le-int_le w.total (v.total +ℤ pos q.slack) (omega (arith, ints))))
      (or_cases _ _ (all_at good few f.0 h f.1))))
      (λ h. all_from good few (λ v m. all_at good many v h (a.within v m)))

  pub covers-standing : {few many : List Way} → by_end few many → by_end (filter (stands q few) few) (filter (stands q many) many)
  covers-standing {few} {many} a =
      subst (λ ws. by_end ws (filter (stands q many) many))
      (filter_same (stands q many) (stands q few) few (λ w _. sym (stands_same a w)))
      (covers-filter (stands q many) (λ f w e n h. stands_below many f w e (preferred_total q.open_ended f w n) h) a)

  pub records_below : (to : ℕ) (f w : Way) → f.last ≡ w.last → f.total ≤ℤ w.total → records q to w ≡ true → records q to f ≡ true
  unfolding records
  records_below to f w e t h =
      let k = and_parts _ _ h in
      let d = ap (λ (x : Node). q.demerits x to) e in
      let below = int_lt-true (w.total +ℤ q.demerits w.last to) (pos awful_bad) k.1 in
      and_from _ _
      (ap (λ (x : Node). int_le (pos (q.badness x.place x.group to)) q.threshold) e ∙ k.0)
      (lt-int_lt (f.total +ℤ q.demerits f.last to) (pos awful_bad) (omega (arith, ints)))

  pub covers-recorded : (to : ℕ) {few many : List Way} → by_end few many → by_end (filter (records q to) few) (filter (records q to) many)
  covers-recorded to {few} {many} a = covers-filter (records q to) (λ f w e n h. records_below to f w e (preferred_total q.open_ended f w n) h) a

  abbrev none_later : List Way → Node → Bool
  none_later ws x = list_all (λ v. not (is_lt (order q.open_ended x v.last))) ws

  is_last_at : (ws : List Way) (w : Way) → is_last q ws w ≡ none_later ws w.last
  unfolding is_last
  is_last_at ws w = refl

  is_last_same : {few many : List Way} → by_end few many → (w : Way) → is_last q few w ≡ is_last q many w
  is_last_same {few} {many} a w =
      is_last_at few w ∙ (covers_all (λ x. not (is_lt (order q.open_ended w.last x))) a ∙ sym (is_last_at many w))

  pub rescued_same : (to : ℕ) {few many : List Way} → by_end few many → rescued q to few ≡ rescued q to many
  unfolding rescued
  rescued_same to {few} {many} a =
      let empty = covers_empty few many a in
      let dead = covers_all (dies q to) a in
      let from_last =
      all_same (is_last q few) (λ w. none_later many w.last) (filter (records q to) few) (λ w _. is_last_same a w ∙ is_last_at many w)
      ∙ (covers_all (none_later many) (covers-recorded to a)
      ∙ all_same (λ w. none_later many w.last) (is_last q many) (filter (records q to) many) (λ w _. sym (is_last_at many w))) in
      rw (empty, dead, from_last) refl

  unfoldable pub lines_by : ℕ → Bool → List Way → List Way
  lines_by to rescue ws =
      cond rescue (map (extended q to (pos 0)) (filter (is_last q ws) ws)) (map (λ w. extended q to (q.demerits w.last to) w) (filter (records q to) ws))

  covers-lines_by : (to : ℕ) (t : Bool) {few many : List Way} → by_end few many → by_end (lines_by to t few) (lines_by to t many)
  unfolding lines_by
  covers-lines_by to true {few} {many} a =
      covers-extended to (λ _. pos 0)
      (subst (λ ws. by_end ws (filter (is_last q many) many))
      (filter_same (is_last q many) (is_last q few) few (λ w _. sym (is_last_same a w)))
      (covers-filter (is_last q many) (λ f w e _ h. is_last_at many f ∙ (ap (none_later many) e ∙ (sym (is_last_at many w) ∙ h))) a))
  covers-lines_by to false {few} {many} a = covers-extended to (λ x. q.demerits x to) (covers-recorded to a)

  pub covers-lines : (to : ℕ) {few many : List Way} → by_end few many → by_end (lines_to q to few) (lines_to q to many)
  unfolding lines_to lines_by
  covers-lines to {few} {many} a =
      subst (λ t. by_end (lines_by to (rescued q to few) few) (lines_by to t many)) (rescued_same to a) (covers-lines_by to (rescued q to few) a)
