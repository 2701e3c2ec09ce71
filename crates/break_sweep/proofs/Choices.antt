-- The way of a node, walked back, and the node that is chosen at the end.
--     earlier_on, earlier_end     the nodes before a node
--     way_made                    the way that is given back
--     none_yet                    where no node was looked at
--     groups_more                 one more group
--     choice_step, choice_more    one more node in front of those that were looked at
use Rattle.std.proofs.Common.{◌≡◌, ℕ, zero, suc, ◌+◌, ◌-◌, ◌<◌, ◌≤◌, Bool, true, false, cond, not, ◌&&◌, ℤ, ◌≤ℤ◌, ◌<ℤ◌, List, [], ◌∷◌, ◌++◌, map, length, get_or, take, drop, Option, Some, None, refl, sym, ap, ◌∙◌, subst, zero-add, arith}
use Rattle.std.specs.Prelude.{int_le, option_map, IfSome}
use Rattle.std.specs.List.{fold, slice_get}
use Rattle.std.specs.declared.cmp.Ordering.{Ordering}
use Rattle.std.specs.declared.cmp.Ordering.TheVariants.{Less, Equal, Greater}
use Rattle.std.specs.Ordering.{MatchOrdering, int_cmp, is_lt, on}
use Rattle.std.proofs.lemmas.List.{length_push, length-take-le, take-append-drop, get_or_append_left, get_or_at, get_or_read, drop_more, drop_all, map-append, take_more}
use Rattle.std.proofs.lemmas.List.Sums.{fold-append}
use Rattle.std.proofs.lemmas.Option.{slice_get-get_or, slice_get_past}
use Rattle.std.proofs.lemmas.Cmp.{int_ranked}
use Rattle.std.proofs.lemmas.Int.{ints}
use Rattle.line_break.specs.declared.node.Node.{Node}
use Rattle.line_break.specs.declared.node.Way.{Way}
use Rattle.line_break.specs.Members.{first_by, first_of_two}
use Rattle.line_break.specs.Sweep.{first_of_least}
use Rattle.line_break.specs.Laws.{of_group}
use Rattle.line_break.proofs.OrderLemmas.{int_le-true, int_le-false}
use Rattle.break_sweep.specs.declared.made.Made.{Made}
use Rattle.break_sweep.specs.Made.{nodes_of, way_of, and_way, ways_of, no_way, no_made, way_at, listed}
use Rattle.break_sweep.specs.Choosing.{is_wanted, of_wanted, is_to_take}
use Rattle.break_sweep.proofs.NodeWays.{ways_length, read_last, read_total, listed_length, listed_at}

kept_below : (ws : List Way) (ms : List Made) (j : ℕ) (d : Way) → j < length ws → get_or (fold and_way ws ms) j d ≡ get_or ws j d
kept_below ws [] j d h = refl
kept_below ws (m ∷ ms) j d h =
    let n = length_push ws (way_of ws m) in
    kept_below (ws ++ way_of ws m ∷ []) ms j d (omega arith) ∙ get_or_append_left ws (way_of ws m ∷ []) d j h

way_from : (ws : List Way) (ms : List Made) (k : ℕ) (d : Made) → k < length ms → get_or (fold and_way ws ms) (length ws + k) no_way ≡ way_of (fold and_way ws (take k ms)) (get_or ms k d)
way_from ws [] k d h = absurd (omega arith)
way_from ws (m ∷ ms) zero d h =
    let n = length_push ws (way_of ws m) in
    kept_below (ws ++ way_of ws m ∷ []) ms (length ws + 0) no_way (omega arith) ∙ get_or_at ws (way_of ws m) [] no_way (length ws + 0) (omega arith)
way_from ws (m ∷ ms) (suc k) d h =
    let n = length_push ws (way_of ws m) in
    let same : length ws + suc k ≡ length (ws ++ way_of ws m ∷ []) + k = omega arith in
    ap (λ j. get_or (fold and_way (ws ++ way_of ws m ∷ []) ms) j no_way) same ∙ way_from (ws ++ way_of ws m ∷ []) ms k d (omega arith)

way_is : (ms : List Made) (k : ℕ) (d : Made) → k < length ms → way_at (ways_of ms) k ≡ way_of (ways_of (take k ms)) (get_or ms k d)
unfolding ways_of
way_is ms k d h = ap (λ j. get_or (fold and_way [] ms) j no_way) (sym (zero-add k)) ∙ way_from [] ms k d h

front_way : (ms : List Made) (k j : ℕ) → k < length ms → j < k → get_or (ways_of (take k ms)) j no_way ≡ way_at (ways_of ms) j
unfolding ways_of
front_way ms k j h l =
    let n = ways_length (take k ms) in
    let t = length-take-le k ms (omega arith) in
    sym (ap (λ xs. get_or (fold and_way [] xs) j no_way) (sym (take-append-drop k ms))
    ∙ (ap (λ ws. get_or ws j no_way) (fold-append and_way [] (take k ms) (drop k ms))
    ∙ kept_below (fold and_way [] (take k ms)) (drop k ms) j no_way (omega arith)))

pub earlier_on : (ms : List Made) (k b : ℕ) (d : Made) → k < length ms → b ≡ (get_or ms k d).before → b < k
    → (way_at (ways_of ms) k).earlier ≡ (get_or ms b d).node ∷ (way_at (ways_of ms) b).earlier
earlier_on ms k b d h e l =
    let n = ways_length (take k ms) in
    let t = length-take-le k ms (omega arith) in
    ap (λ (w : Way). w.earlier) (way_is ms k d h)
    ∙ (ap (λ j. nodes_of (slice_get (ways_of (take k ms)) j)) (sym e)
    ∙ (ap nodes_of (slice_get-get_or (ways_of (take k ms)) b no_way (omega arith) ∙ ap Some (front_way ms k b h l))
    ∙ ap (λ x. x ∷ (way_at (ways_of ms) b).earlier) (read_last ms b d (omega arith))))

pub earlier_end : (ms : List Made) (k : ℕ) (d : Made) → k < length ms → k ≤ (get_or ms k d).before → (way_at (ways_of ms) k).earlier ≡ []
earlier_end ms k d h l =
    let n = ways_length (take k ms) in
    let t = length-take-le k ms (omega arith) in
    ap (λ (w : Way). w.earlier) (way_is ms k d h) ∙ ap nodes_of (slice_get_past (ways_of (take k ms)) (get_or ms k d).before (omega arith))

not_less : (a b : ℤ) (o : Ordering) → MatchOrdering o (a <ℤ b) (a ≡ b) (b <ℤ a) → b ≤ℤ a → is_lt o ≡ false
not_less a b Less m h = absurd (omega (arith, ints))
not_less a b Equal m h = refl
not_less a b Greater m h = refl

is_less : (a b : ℤ) (o : Ordering) → MatchOrdering o (a <ℤ b) (a ≡ b) (b <ℤ a) → a <ℤ b → is_lt o ≡ true
is_less a b Less m h = refl
is_less a b Equal m h = absurd (omega (arith, ints))
is_less a b Greater m h = absurd (omega (arith, ints))

less_is : (a b : ℤ) → is_lt (int_cmp a b) ≡ not (int_le b a)
less_is a b = by (int_le b a) refl
  where
    by : (t : Bool) → int_le b a ≡ t → is_lt (int_cmp a b) ≡ not (int_le b a)
    by true e = not_less a b (int_cmp a b) (int_ranked a b (int_cmp a b) refl) (int_le-true b a e) ∙ ap not (sym e)
    by false e = is_less a b (int_cmp a b) (int_ranked a b (int_cmp a b) refl) (int_le-false b a e) ∙ ap not (sym e)

wanted_cons : (group : Option ℕ) (w : Way) (ws : List Way) → of_wanted group (w ∷ ws) ≡ cond (is_wanted w.last group) (w ∷ of_wanted group ws) (of_wanted group ws)
wanted_cons None w ws = refl
wanted_cons (Some g) w ws = refl

module _ (ms : List Made) where
  taken : (found : Option ℕ) (index : ℕ) (m : Made) (w : Way) → IfSome found (λ i. i < length ms) → w ≡ way_at (ways_of ms) index → m.total ≡ w.total
      → option_map (way_at (ways_of ms)) (cond (is_to_take ms found m) (Some index) found) ≡ Some (first_of_two (on (λ (v : Way). v.total) int_cmp) w (option_map (way_at (ways_of ms)) found))
  taken None index m w h e f = ap Some (sym e)
  taken (Some i) index m w h e f =
      let y = way_at (ways_of ms) i in
      let total : y.total ≡ (get_or ms i no_made).total = read_total ms i no_made h in
      let less : is_lt (int_cmp y.total w.total) ≡ not (int_le m.total (get_or ms i no_made).total) =
      less_is y.total w.total ∙ (ap (λ t. not (int_le w.total t)) total ∙ ap (λ t. not (int_le t (get_or ms i no_made).total)) (sym f)) in
      by (int_le m.total (get_or ms i no_made).total) ∙ ap (λ b. Some (cond b y w)) (sym less)
    where
      by : (t : Bool) → option_map (way_at (ways_of ms)) (cond t (Some index) (Some i)) ≡ Some (cond (not t) (way_at (ways_of ms) i) w)
      by true = ap Some (sym e)
      by false = refl

  pub choice_step : (group : Option ℕ) (found : Option ℕ) (index : ℕ) (m : Made) (w : Way) (rest : List Way) → IfSome found (λ i. i < length ms)
      → w ≡ way_at (ways_of ms) index → m.total ≡ w.total → m.node ≡ w.last
      → option_map (way_at (ways_of ms)) found ≡ first_of_least (of_wanted group rest)
      → option_map (way_at (ways_of ms)) (cond (is_wanted m.node group && is_to_take ms found m) (Some index) found) ≡ first_of_least (of_wanted group (w ∷ rest))
  unfolding first_of_least
  choice_step group found index m w rest h e f n inv =
      let least : List Way → Option Way = first_by (on (λ (v : Way). v.total) int_cmp) in
      ap (λ x. option_map (way_at (ways_of ms)) (cond (is_wanted x group && is_to_take ms found m) (Some index) found)) n
      ∙ (by (is_wanted w.last group) ∙ sym (ap least (wanted_cons group w rest)))
    where
      by : (t : Bool) → option_map (way_at (ways_of ms)) (cond (t && is_to_take ms found m) (Some index) found)
          ≡ first_by (on (λ (v : Way). v.total) int_cmp) (cond t (w ∷ of_wanted group rest) (of_wanted group rest))
      by true = taken found index m w h e f ∙ ap (λ o. Some (first_of_two (on (λ (v : Way). v.total) int_cmp) w o)) inv
      by false = inv

pub choice_more : (ms : List Made) (indices : List ℕ) (group : Option ℕ) (back : ℕ) (found : Option ℕ) (index : ℕ) (m : Made) → back < length indices
    → IfSome found (λ i. i < length ms) → index ≡ get_or indices (length indices - 1 - back) 0 → index < length ms → m ≡ get_or ms index no_made
    → option_map (way_at (ways_of ms)) found ≡ first_of_least (of_wanted group (drop (length indices - back) (listed (ways_of ms) indices)))
    → option_map (way_at (ways_of ms)) (cond (is_wanted m.node group && is_to_take ms found m) (Some index) found)
    ≡ first_of_least (of_wanted group (drop (length indices - (back + 1)) (listed (ways_of ms) indices)))
choice_more ms indices group back found index m h within e k r inv =
    let i = length indices - 1 - back in
    let all = listed (ways_of ms) indices in
    let n = listed_length (ways_of ms) indices in
    let w = way_at (ways_of ms) index in
    let after : i + 1 ≡ length indices - back = omega arith in
    let here : i ≡ length indices - (back + 1) = omega arith in
    let split : drop i all ≡ w ∷ drop (i + 1) all =
    drop_more all i no_way (omega arith) ∙ ap (λ v. v ∷ drop (i + 1) all) (listed_at (ways_of ms) indices i 0 no_way (omega arith) ∙ ap (way_at (ways_of ms)) (sym e)) in
    choice_step ms group found index m w (drop (i + 1) all) within refl
    (ap (λ (x : Made). x.total) r ∙ sym (read_total ms index no_made k)) (ap (λ (x : Made). x.node) r ∙ sym (read_last ms index no_made k))
    (inv ∙ ap (λ j. first_of_least (of_wanted group (drop j all))) (sym after))
    ∙ (ap (λ l. first_of_least (of_wanted group l)) (sym split) ∙ ap (λ j. first_of_least (of_wanted group (drop j all))) here)

pub chosen_within : (n : ℕ) (t : Bool) (index : ℕ) (found : Option ℕ) → index < n → IfSome found (λ i. i < n) → IfSome (cond t (Some index) found) (λ i. i < n)
chosen_within n true index found h k = h
chosen_within n false index found h k = k

pub none_yet : (group : Option ℕ) (all : List Way) (k : ℕ) → length all ≤ k → None ≡ first_of_least (of_wanted group (drop k all))
unfolding first_of_least
none_yet None all k h = ap (first_by (on (λ (w : Way). w.total) int_cmp)) (sym (drop_all k all h))
none_yet (Some g) all k h = ap (λ l. first_by (on (λ (w : Way). w.total) int_cmp) (of_group g l)) (sym (drop_all k all h))

pub way_made : (ms : List Made) (index : ℕ) (m : Made) (earlier : List Node) → index < length ms → m ≡ get_or ms index no_made → earlier ≡ (way_at (ways_of ms) index).earlier
    → record { last = m.node; earlier = earlier; total = m.total } ≡ way_at (ways_of ms) index
way_made ms index m earlier h e f =
    let w = way_at (ways_of ms) index in
    let way : Node → List Node → ℤ → Way = λ x l t. record { last = x; earlier = l; total = t } in
    ap (λ (x : Made). way x.node earlier x.total) e
    ∙ (ap (λ x. way x earlier (get_or ms index no_made).total) (sym (read_last ms index no_made h))
    ∙ (ap (way w.last earlier) (sym (read_total ms index no_made h))
    ∙ ap (λ l. way w.last l w.total) f))

-- one more group of the nodes
pub groups_more : (ms : List Made) (indices : List ℕ) (k index : ℕ) (m : Made) → k < length indices → index ≡ get_or indices k index → index < length ms
    → m ≡ get_or ms index m
    → map (λ (w : Way). w.last.group) (take (k + 1) (listed (ways_of ms) indices))
    ≡ map (λ (w : Way). w.last.group) (take k (listed (ways_of ms) indices)) ++ m.node.group ∷ []
groups_more ms indices k index m within read below got =
    let all = listed (ways_of ms) indices in
    let n = listed_length (ways_of ms) indices in
    let here : index ≡ get_or indices k 0 = get_or_read indices k index within read 0 in
    let last : (get_or all k no_way).last ≡ m.node
    = ap (λ (w : Way). w.last) (listed_at (ways_of ms) indices k 0 no_way within)
    ∙ ap (λ (i : ℕ). (way_at (ways_of ms) i).last) (sym here)
    ∙ read_last ms index no_made below
    ∙ ap (λ (x : Made). x.node) (sym (get_or_read ms index m below got no_made)) in
    ap (map (λ (w : Way). w.last.group)) (take_more all k no_way (omega arith))
    ∙ map-append (λ (w : Way). w.last.group) (take k all) (get_or all k no_way ∷ [])
    ∙ ap (λ (x : Node). map (λ (w : Way). w.last.group) (take k all) ++ x.group ∷ []) last
