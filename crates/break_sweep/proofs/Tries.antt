-- Nodes tried in order.
--     line_same              the line from a node is that of its way
--     best_step, living_step what one try leaves
--     line_found             what is known of a line
--     rest_at, near_at       what is left at an index, and the node there
--     tried_more, living_more, named_more     what the loop over the nodes keeps
use Rattle.std.proofs.Common.{◌≡◌, ℕ, zero, suc, ◌+◌, ◌<◌, ◌≤◌, ◌^◌, Bool, true, false, cond, not, ◌&&◌, ℤ, pos, ◌+ℤ◌, ◌<ℤ◌, ◌≤ℤ◌, List, [], ◌∷◌, ◌++◌, map, filter, length, get_or, drop, Option, Some, None, refl, sym, ap, ◌∙◌, subst, append_assoc, append-nil, arith}
use Rattle.std.specs.Prelude.{◌==◌, int_lt, int_le, option_map, is_some, is_none}
use Rattle.std.specs.List.{fold, slice_get, All}
use Rattle.std.specs.Option.{option_to_list}
use Rattle.std.proofs.Math.Bool.{and-true, and-false}
use Rattle.std.proofs.lemmas.Bool.{false≢true, and_parts, ne_eqb}
use Rattle.std.proofs.lemmas.Bool.Decides.{nat_tests}
use Rattle.std.proofs.lemmas.List.{drop_more}
use Rattle.std.proofs.lemmas.List.Sums.{fold-append}
use Rattle.std.proofs.lemmas.List.Elements.{All-nil, All-cons, All-push}
use Rattle.std.proofs.lemmas.Int.{ints}
use Rattle.line_break.specs.declared.node.Node.{Node}
use Rattle.line_break.specs.declared.node.Way.{Way}
use Rattle.line_break.specs.Members.{is_empty}
use Rattle.line_break.specs.Pass.{Pass}
use Rattle.line_break.specs.Sweep.{tried, put}
use Rattle.line_break.specs.Ways.{extended, dies, records, awful_bad}
use Rattle.line_break.proofs.OrderLemmas.{int_lt-true}
use Rattle.break_sweep.specs.declared.made.Made.{Made}
use Rattle.break_sweep.specs.Made.{way_of, ways_of, no_way, way_at, listed, IsNear, IsFound}
use Rattle.break_sweep.specs.Trials.{further, line_from, line_tried}
use Rattle.break_sweep.proofs.NodeWays.{way_read, read_last, read_total, listed_length, listed_at, listed_push}

module _ (q : Pass) (to : ℕ) where
  way_further : (ws : List Way) (index : ℕ) (w : Way) (d : ℤ) (b : ℕ) → slice_get ws index ≡ Some w
      → way_of ws (further q to d index (record { node = w.last; total = w.total; before = b })) ≡ extended q to d w
  unfolding further extended
  way_further ws index w d b e = rw e refl

  line_of_way : (quiet last : Bool) (ws : List Way) (index : ℕ) (w : Way) (b : ℕ) → slice_get ws index ≡ Some w
      → option_map (way_of ws) (line_from q to quiet last index (record { node = w.last; total = w.total; before = b })) ≡ line_tried q to quiet last w
  unfolding line_from line_tried records
  line_of_way quiet last ws index w b e = by (last && q.final && quiet && dies q to w.last) (int_le (pos (q.badness w.last.place w.last.group to)) q.threshold && int_lt (w.total +ℤ q.demerits w.last to) (pos awful_bad))
    where
      m : Made
      m = record { node = w.last; total = w.total; before = b }

      by : (s t : Bool)
          → option_map (way_of ws) (cond s (Some (further q to (pos 0) index m)) (cond t (Some (further q to (q.demerits w.last to) index m)) None))
          ≡ cond s (Some (extended q to (pos 0) w)) (cond t (Some (extended q to (q.demerits w.last to) w)) None)
      by true t = ap Some (way_further ws index w (pos 0) b e)
      by false true = ap Some (way_further ws index w (q.demerits w.last to) b e)
      by false false = refl

  pub line_same : (quiet last : Bool) (ws : List Way) (index : ℕ) (w : Way) (m : Made) → slice_get ws index ≡ Some w → w.last ≡ m.node → w.total ≡ m.total
      → option_map (way_of ws) (line_from q to quiet last index m) ≡ line_tried q to quiet last w
  line_same quiet last ws index w m e f g =
      let made : Node → ℤ → Made = λ x t. record { node = x; total = t; before = m.before } in
      let P : Node → ℤ → Type 0 = λ x t. option_map (way_of ws) (line_from q to quiet last index (made x t)) ≡ line_tried q to quiet last w in
      subst (λ x. P x m.total) f (subst (λ t. P w.last t) g (line_of_way quiet last ws index w m.before e))

  tried_step : (quiet : Bool) (w : Way) (ws : List Way)
      → tried q to quiet (w ∷ ws)
      ≡ option_to_list (line_tried q to quiet (is_empty ws) w) ++ tried q to (quiet && dies q to w.last && is_none (line_tried q to quiet (is_empty ws) w)) ws
  unfolding tried line_tried
  tried_step quiet w [] = by (q.final && quiet && dies q to w.last) (records q to w)
    where
      by : (s r : Bool)
          → cond s (extended q to (pos 0) w ∷ []) (cond r (extended q to (q.demerits w.last to) w ∷ []) [])
          ≡ option_to_list (cond s (Some (extended q to (pos 0) w)) (cond r (Some (extended q to (q.demerits w.last to) w)) None)) ++ []
      by true r = refl
      by false true = refl
      by false false = refl
  tried_step quiet w (v ∷ vs) = by (records q to w)
    where
      by : (r : Bool)
          → cond r (extended q to (q.demerits w.last to) w ∷ tried q to false (v ∷ vs)) (tried q to (quiet && dies q to w.last) (v ∷ vs))
          ≡ option_to_list (cond r (Some (extended q to (q.demerits w.last to) w)) None)
          ++ tried q to (quiet && dies q to w.last && is_none (cond r (Some (extended q to (q.demerits w.last to) w)) None)) (v ∷ vs)
      by true = rw (and-false (quiet && dies q to w.last)) refl
      by false = rw (and-true (quiet && dies q to w.last)) refl

  pub best_step : (f : Made → Way) (quiet : Bool) (w : Way) (rest : List Way) (line : Option Made) (before : List Way) → option_map f line ≡ line_tried q to quiet (is_empty rest) w
      → fold (put q) (fold (put q) before (map f (option_to_list line))) (tried q to (quiet && dies q to w.last && is_none line) rest)
      ≡ fold (put q) before (tried q to quiet (w ∷ rest))
  best_step f quiet w rest line before e =
      sym (fold-append (put q) before (map f (option_to_list line)) (tried q to (quiet && dies q to w.last && is_none line) rest))
      ∙ (ap (fold (put q) before)
      (by line
      ∙ (ap (λ o. option_to_list o ++ tried q to (quiet && dies q to w.last && is_none o) rest) e ∙ sym (tried_step quiet w rest))))
    where
      by : (o : Option Made)
          → map f (option_to_list o) ++ tried q to (quiet && dies q to w.last && is_none o) rest
          ≡ option_to_list (option_map f o) ++ tried q to (quiet && dies q to w.last && is_none (option_map f o)) rest
      by None = refl
      by (Some m) = refl

  abbrev pub lives_on : Way → Bool
  lives_on w = not (dies q to w.last)

  pub living_step : (ws : List Way) (living : List ℕ) (index : ℕ) (t : Bool) (rest : List Way) → t ≡ dies q to (way_at ws index).last
      → listed ws (living ++ cond t [] (index ∷ [])) ++ filter lives_on rest ≡ listed ws living ++ filter lives_on (way_at ws index ∷ rest)
  unfolding listed
  living_step ws living index t rest e =
      ap (λ l. l ++ filter lives_on rest) (listed_push ws living (cond t [] (index ∷ [])))
      ∙ (append_assoc (listed ws living) (listed ws (cond t [] (index ∷ []))) (filter lives_on rest)
      ∙ ap (λ l. listed ws living ++ l) (by t ∙ ap (λ s. cond (not s) (way_at ws index ∷ filter lives_on rest) (filter lives_on rest)) e))
    where
      by : (s : Bool) → listed ws (cond s [] (index ∷ [])) ++ filter lives_on rest ≡ cond (not s) (way_at ws index ∷ filter lives_on rest) (filter lives_on rest)
      by true = refl
      by false = refl

  further_found : (n index : ℕ) (m : Made) (d : ℤ) → index < n → (m.total +ℤ d) ≤ℤ pos (2 ^ 30) → IsFound to n (further q to d index m)
  unfolding further
  further_found n index m d h k = record { place = refl; before = h; high = k }

  pub line_found : (n : ℕ) (quiet last : Bool) (index : ℕ) (m : Made) → index < n → m.total ≤ℤ pos (2 ^ 30) → All (IsFound to n) (option_to_list (line_from q to quiet last index m))
  unfolding line_from records
  line_found n quiet last index m h k =
      by (last && q.final && quiet && dies q to m.node) (int_le (pos (q.badness m.node.place m.node.group to)) q.threshold && int_lt (m.total +ℤ q.demerits m.node to) (pos awful_bad)) refl
    where
      one : (x : Made) → IsFound to n x → All (IsFound to n) (x ∷ [])
      one x f = All-cons (IsFound to n) x [] f (All-nil (IsFound to n))

      by : (s t : Bool) → (int_le (pos (q.badness m.node.place m.node.group to)) q.threshold && int_lt (m.total +ℤ q.demerits m.node to) (pos awful_bad)) ≡ t
          → All (IsFound to n) (option_to_list (cond s (Some (further q to (pos 0) index m)) (cond t (Some (further q to (q.demerits m.node to) index m)) None)))
      by true t e = one _ (further_found n index m (pos 0) h (omega (arith, ints)))
      by false true e =
          let low : (m.total +ℤ q.demerits m.node to) <ℤ pos awful_bad = int_lt-true (m.total +ℤ q.demerits m.node to) (pos awful_bad) (and_parts _ _ e).1 in
          one _ (further_found n index m (q.demerits m.node to) h (omega (arith, ints)))
      by false false e = All-nil (IsFound to n)

pub empty_drop : {X : Type 0} (xs : List X) (k : ℕ) → k ≤ length xs → is_empty (drop k xs) ≡ (k == length xs)
empty_drop [] zero h = refl
empty_drop [] (suc k) h = absurd (omega arith)
empty_drop (x ∷ xs) zero h = sym (ne_eqb 0 (suc (length xs)) (λ e. absurd (omega arith)))
empty_drop (x ∷ xs) (suc k) h = empty_drop xs k (omega arith) ∙ grind (arith, nat_tests)

module _ (q : Pass) (to : ℕ) (ms : List Made) (indices : List ℕ) where
  abbrev all : List Way
  all = listed (ways_of ms) indices

  pub rest_at : (i : ℕ) → i < length indices → drop i all ≡ way_at (ways_of ms) (get_or indices i 0) ∷ drop (i + 1) all
  rest_at i h =
      let n = listed_length (ways_of ms) indices in
      drop_more all i no_way (omega arith) ∙ ap (λ w. w ∷ drop (i + 1) all) (listed_at (ways_of ms) indices i 0 no_way h)

  pub near_at : (i : ℕ) (d : Made) → i < length indices → get_or indices i 0 < length ms → All (λ w. IsNear to w.last w.total) all
      → IsNear to (get_or ms (get_or indices i 0) d).node (get_or ms (get_or indices i 0) d).total
  near_at i d h k near =
      let n = listed_length (ways_of ms) indices in
      let index = get_or indices i 0 in
      let w = way_at (ways_of ms) index in
      let here = subst (λ (v : Way). IsNear to v.last v.total) (listed_at (ways_of ms) indices i 0 no_way h) (near i no_way (omega arith)) in
      subst (λ x. IsNear to x (get_or ms index d).total) (read_last ms index d k) (subst (λ t. IsNear to w.last t) (read_total ms index d k) here)

  pub tried_more : (i : ℕ) (d : Made) → i < length indices → get_or indices i 0 < length ms
      → (quiet t s last : Bool) (line : Option Made) (before after found : List Way)
      → t ≡ dies q to (get_or ms (get_or indices i 0) d).node → s ≡ is_none line → last ≡ (i + 1 == length indices)
      → line ≡ line_from q to quiet last (get_or indices i 0) (get_or ms (get_or indices i 0) d)
      → after ≡ fold (put q) before (map (way_of (ways_of ms)) (option_to_list line))
      → fold (put q) before (tried q to quiet (drop i all)) ≡ found
      → fold (put q) after (tried q to (quiet && t && s) (drop (i + 1) all)) ≡ found
  tried_more i d h k quiet t s last line before after found e f g l a inv =
      let n = listed_length (ways_of ms) indices in
      let index = get_or indices i 0 in
      let ws = ways_of ms in
      let w = way_at ws index in
      let rest = drop (i + 1) all in
      let here = read_last ms index d k in
      let ends : is_empty rest ≡ last = empty_drop all (i + 1) (omega arith) ∙ (ap (λ m. i + 1 == m) n ∙ sym g) in
      let same : option_map (way_of ws) line ≡ line_tried q to quiet (is_empty rest) w =
      ap (option_map (way_of ws)) l
      ∙ (line_same q to quiet last ws index w (get_or ms index d) (way_read ms index k) here (read_total ms index d k)
      ∙ ap (λ b. line_tried q to quiet b w) (sym ends)) in
      let died : t ≡ dies q to w.last = e ∙ ap (dies q to) (sym here) in
      ap (λ b. fold (put q) after (tried q to (quiet && b && s) rest)) died
      ∙ (ap (λ b. fold (put q) after (tried q to (quiet && dies q to w.last && b) rest)) f
      ∙ (ap (λ b. fold (put q) b (tried q to (quiet && dies q to w.last && is_none line) rest)) a
      ∙ (best_step q to (way_of ws) quiet w rest line before same
      ∙ (ap (λ r. fold (put q) before (tried q to quiet r)) (sym (rest_at i h)) ∙ inv))))

  pub living_more : (i : ℕ) (d : Made) → i < length indices → get_or indices i 0 < length ms
      → (t : Bool) (living after : List ℕ) (found : List Way) → t ≡ dies q to (get_or ms (get_or indices i 0) d).node
      → after ≡ living ++ cond t [] (get_or indices i 0 ∷ [])
      → listed (ways_of ms) living ++ filter (lives_on q to) (drop i all) ≡ found
      → listed (ways_of ms) after ++ filter (lives_on q to) (drop (i + 1) all) ≡ found
  living_more i d h k t living after found e a inv =
      let index = get_or indices i 0 in
      let ws = ways_of ms in
      let rest = drop (i + 1) all in
      ap (λ l. listed ws l ++ filter (lives_on q to) rest) a
      ∙ (living_step q to ws living index t rest (e ∙ ap (dies q to) (sym (read_last ms index d k)))
      ∙ (ap (λ r. listed ws living ++ filter (lives_on q to) r) (sym (rest_at i h)) ∙ inv))

pub none_is : {X : Type 0} (o : Option X) (s : Bool) → is_some o ≡ not s → s ≡ is_none o
none_is None true e = refl
none_is None false e = absurd (false≢true e)
none_is (Some x) true e = absurd (false≢true (sym e))
none_is (Some x) false e = refl

pub named_more : (n : ℕ) (living : List ℕ) (t : Bool) (index : ℕ) → All (λ i. i < n) living → index < n → All (λ i. i < n) (living ++ cond t [] (index ∷ []))
named_more n living true index all h = subst (All (λ i. i < n)) (sym (append-nil living)) all
named_more n living false index all h = All-push (λ i. i < n) living index all h
