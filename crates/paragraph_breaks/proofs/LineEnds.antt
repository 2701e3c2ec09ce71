-- Where the lines of a way end.
--     break_at               the item at which a line of a way ends
--     way_ends               legal places, strictly ascending, the last of which is the end
use Rattle.std.proofs.Common.{◌≡◌, ℕ, zero, suc, ◌+◌, ◌-◌, ◌<◌, ◌≤◌, ap, sym, ◌∙◌, subst, cond, Bool, true, false, List, [], ◌∷◌, ◌++◌, filter, length, get_or, slice_get, All, Option, Some, arith}
use Rattle.std.specs.List.{range_with_len}
use Rattle.std.proofs.lemmas.List.{length-append, length-map, get_or-map, get_or_default}
use Rattle.std.proofs.lemmas.List.Elements.{All-from_get_or, All-get_or}
use Rattle.std.proofs.lemmas.Option.{slice_get_past, slice_get-get_or}
use Rattle.std.proofs.Math.Seq.{get_or-append_seam}
use Rattle.hlist.specs.declared.item.Item.{Item}
use Rattle.line_break.specs.declared.node.Node.{Node}
use Rattle.line_break.specs.declared.node.Way.{Way}
use Rattle.line_break.specs.Best.{end_of, to_the_end}
use Rattle.line_break.specs.Laws.{EachStep, IsLine, IsMadeOfLines}
use Rattle.line_break.specs.Members.{Among}
use Rattle.line_break.specs.Pass.{Pass}
use Rattle.line_break.specs.Taken.{breaks_of, places_of}
use Rattle.line_break.specs.Ways.{start}
use Rattle.line_break.proofs.Ending.{to_end_parts}
use Rattle.line_break.proofs.MadeOfLines.{made_of_lines}
use Rattle.break_rule.specs.Fits.{Rule}
use Rattle.break_rule.specs.Made.{IsPlace}
use Rattle.break_rule.specs.Places.{ends_line, is_place, item_before, legal_of}
use Rattle.break_rule.proofs.Lookups.{all_places}
use Rattle.break_rule.proofs.RangeSteps.{filter_step}
use Rattle.paragraph_breaks.specs.Outcome.{AreLineEnds, Rise}
use Rattle.paragraph_breaks.specs.WayNodes.{node_at}
use Rattle.paragraph_breaks.proofs.WayPlaces.{node-back, nodes-high, place_at, way_length}

-- Of the numbers from one on, those that pass a test ascend.
module _ (p : ℕ → Bool) where
  low-with : (t : Bool) (a : ℕ) (xs : List ℕ) → ((k : ℕ) → k < length xs → a + 1 ≤ get_or xs k 0)
      → (k : ℕ) → k < length (cond t (a ∷ xs) xs) → a ≤ get_or (cond t (a ∷ xs) xs) k 0
  low-with true a xs more zero h = omega arith
  low-with true a xs more (suc k) h = let m = more k (omega (arith, h)) in omega (arith, m)
  low-with false a xs more k h = let m = more k h in omega (arith, m)

  low : (n a k : ℕ) → k < length (filter p (range_with_len a n)) → a ≤ get_or (filter p (range_with_len a n)) k 0
  low zero a k h = absurd (omega arith)
  low (suc n) a k h = low-with (p a) a (filter p (range_with_len (a + 1) n)) (low n (a + 1)) k h

  rises-with : (t : Bool) (a : ℕ) (xs : List ℕ) → ((k : ℕ) → k < length xs → a + 1 ≤ get_or xs k 0)
      → ((j k : ℕ) → j < k → k < length xs → get_or xs j 0 < get_or xs k 0) → (j k : ℕ) → j < k
      → k < length (cond t (a ∷ xs) xs) → get_or (cond t (a ∷ xs) xs) j 0 < get_or (cond t (a ∷ xs) xs) k 0
  rises-with true a xs more rise j zero l h = absurd (omega arith)
  rises-with true a xs more rise zero (suc k) l h = let m = more k (omega (arith, h)) in omega (arith, m)
  rises-with true a xs more rise (suc j) (suc k) l h = rise j k (omega (arith, l)) (omega (arith, h))
  rises-with false a xs more rise j k l h = rise j k l h

  rises : (n a j k : ℕ) → j < k → k < length (filter p (range_with_len a n))
      → get_or (filter p (range_with_len a n)) j 0 < get_or (filter p (range_with_len a n)) k 0
  rises zero a j k l h = absurd (omega arith)
  rises (suc n) a j k l h =
      rises-with (p a) a (filter p (range_with_len (a + 1) n)) (low n (a + 1)) (rises n (a + 1)) j k l h

module _ (rule : Rule) where
  legal_rise : (j k : ℕ) → j < k → k < length (legal_of rule.params rule.items)
      → get_or (legal_of rule.params rule.items) j 0 < get_or (legal_of rule.params rule.items) k 0
  unfolding legal_of
  legal_rise j k below within = rises (is_place rule.params rule.items) (length rule.items + 1) 0 j k below within

  end_legal : is_place rule.params rule.items (length rule.items) ≡ true
  unfolding is_place
  end_legal =
      ap (λ (here : Option Item). ends_line rule.params (item_before rule.items (length rule.items)) here (slice_get rule.items (length rule.items + 1)))
      (slice_get_past rule.items (length rule.items) (omega arith))

  legal_ends : legal_of rule.params rule.items
      ≡ filter (is_place rule.params rule.items) (range_with_len 0 (length rule.items)) ++ length rule.items ∷ []
  unfolding legal_of
  legal_ends =
      filter_step (is_place rule.params rule.items) (length rule.items)
      ∙ ap (λ (ends : Bool). filter (is_place rule.params rule.items) (range_with_len 0 (length rule.items)) ++ cond ends (length rule.items ∷ []) [])
      end_legal

  some_legal : 0 < length (legal_of rule.params rule.items)
  some_legal =
      let before = filter (is_place rule.params rule.items) (range_with_len 0 (length rule.items)) in
      let count = ap length legal_ends ∙ length-append before (length rule.items ∷ []) in
      omega (arith, count)

  last_legal : get_or (legal_of rule.params rule.items) (length (legal_of rule.params rule.items) - 1) 0 ≡ length rule.items
  last_legal =
      let before = filter (is_place rule.params rule.items) (range_with_len 0 (length rule.items)) in
      let count : length (legal_of rule.params rule.items) ≡ length before + 1 =
      ap length legal_ends ∙ length-append before (length rule.items ∷ []) in
      let at : length (legal_of rule.params rule.items) - 1 ≡ length before = omega (arith, count) in
      ap (λ (k : ℕ). get_or (legal_of rule.params rule.items) k 0) at
      ∙ ap (λ (xs : List ℕ). get_or xs (length before) 0) legal_ends
      ∙ get_or-append_seam before (length rule.items) [] 0

-- each node is before the next
nodes-forward : (q : Pass) (s x : Node) (before : List Node) → EachStep (IsLine q) s x before → (k : ℕ) → k < length before
    → (get_or (x ∷ before) (suc k) x).place < (get_or (x ∷ before) k x).place
nodes-forward q s x [] steps k below = absurd (omega arith)
nodes-forward q s x (y ∷ ys) steps zero below = steps.0.forward
nodes-forward q s x (y ∷ ys) steps (suc k) below =
    let within : k < length ys = omega arith in
    let rest = nodes-forward q s y ys steps.1 k within in
    let here = ap (λ (n : Node). n.place) (get_or_default (y ∷ ys) k x y (omega arith)) in
    let next = ap (λ (n : Node). n.place) (get_or_default (y ∷ ys) (suc k) x y (omega arith)) in
    omega (arith, rest, here, next)

pub breaks_length : (q : Pass) (w : Way) → length (breaks_of q w) ≡ length w.earlier
unfolding breaks_of
breaks_length q w = length-map (places_of w) (λ place. get_or q.legal (place - 1) 0) ∙ way_length w

pub break_at : (q : Pass) (w : Way) (line : ℕ) → line < length w.earlier
    → get_or (breaks_of q w) line 0 ≡ get_or q.legal ((node_at w line).place - 1) 0
unfolding breaks_of
break_at q w line below =
    let count = way_length w in
    get_or-map (λ (place : ℕ). get_or q.legal (place - 1) 0) (places_of w) line 0 0 (omega (arith, count, below))
    ∙ ap (λ (place : ℕ). get_or q.legal (place - 1) 0) (place_at w line 0 below)

module _ (q : Pass) (forced : q.forced (end_of q) ≡ true) (w : Way) (m : Among (to_the_end q) w) where
  made : IsMadeOfLines q w
  made = made_of_lines q (end_of q) w (to_end_parts q forced w m).0

  high : (line : ℕ) → line < length w.earlier → (0 < (node_at w line).place) × ((node_at w line).place ≤ end_of q)
  high line below =
      let at = ap (λ (n : Node). n.place) (node-back w line below) in
      let node = nodes-high q (start q).last w.last w.earlier made.lines (length w.earlier - 1 - line) (omega (arith, below)) in
      let last = (to_end_parts q forced w m).1 in
      (omega (arith, node.0, at), omega (arith, node.1, at, last))

  forward : (line : ℕ) → line + 1 < length w.earlier → (node_at w line).place < (node_at w (line + 1)).place
  forward line below =
      let here = ap (λ (n : Node). n.place) (node-back w line (omega arith)) in
      let next = ap (λ (n : Node). n.place) (node-back w (line + 1) below) in
      let k : length w.earlier - 1 - line ≡ suc (length w.earlier - 1 - (line + 1)) = omega arith in
      let moved = ap (λ (i : ℕ). (get_or (w.last ∷ w.earlier) i w.last).place) k in
      let step = nodes-forward q (start q).last w.last w.earlier made.lines (length w.earlier - 1 - (line + 1)) (omega (arith, below)) in
      omega (arith, here, next, moved, step)

  -- a way to the end has a line, where the end isn't the start
  some_line : 0 < end_of q → 0 < length w.earlier
  unfolding start
  some_line far = by w.earlier made.lines
    where
      by : (before : List Node) → EachStep (IsLine q) (start q).last w.last before → 0 < length before
      by [] same =
          let none = ap (λ (n : Node). n.place) same in
          let last = (to_end_parts q forced w m).1 in
          absurd (omega (arith, none, last, far))
      by (x ∷ xs) steps = omega arith

  last_node : 0 < length w.earlier → (node_at w (length w.earlier - 1)).place ≡ end_of q
  last_node some =
      let first : length w.earlier - 1 - (length w.earlier - 1) ≡ 0 = omega arith in
      ap (λ (n : Node). n.place)
      (sym (node-back w (length w.earlier - 1) (omega (arith, some))) ∙ ap (λ (k : ℕ). get_or (w.last ∷ w.earlier) k w.last) first)
      ∙ (to_end_parts q forced w m).1

  module _ (rule : Rule) (own : q.legal ≡ legal_of rule.params rule.items) where
    long : end_of q ≡ length (legal_of rule.params rule.items)
    long = ap length own

    break-legal : (line : ℕ) → line < length w.earlier
        → get_or (breaks_of q w) line 0 ≡ get_or (legal_of rule.params rule.items) ((node_at w line).place - 1) 0
    break-legal line below = break_at q w line below ∙ ap (λ (xs : List ℕ). get_or xs ((node_at w line).place - 1) 0) own

    breaks-legal : All (IsPlace rule) (breaks_of q w)
    breaks-legal =
        All-from_get_or (IsPlace rule) (breaks_of q w) 0
        (λ line within.
        let count = breaks_length q w in
        let below : line < length w.earlier = omega (arith, count, within) in
        let place = high line below in
        subst (IsPlace rule) (sym (break-legal line below))
        (All-get_or (IsPlace rule) (legal_of rule.params rule.items) ((node_at w line).place - 1) 0 (omega (arith, place, long)) (all_places rule)))

    breaks-rise : Rise (breaks_of q w)
    breaks-rise k within =
        let count = breaks_length q w in
        let below : k + 1 < length w.earlier = omega (arith, count, within) in
        let here = break-legal k (omega (arith, below)) in
        let next = break-legal (k + 1) below in
        let on = forward k below in
        let low_place = high k (omega (arith, below)) in
        let high_place = high (k + 1) below in
        let rise =
        legal_rise rule ((node_at w k).place - 1) ((node_at w (k + 1)).place - 1) (omega (arith, on, low_place)) (omega (arith, on, high_place, long)) in
        omega (arith, here, next, rise)

    break-last : slice_get (breaks_of q w) (length (breaks_of q w) - 1) ≡ Some (length rule.items)
    break-last =
        let count = breaks_length q w in
        let far = some_legal rule in
        let some = some_line (omega (arith, long, far)) in
        let at : length (breaks_of q w) - 1 ≡ length w.earlier - 1 = omega (arith, count) in
        slice_get-get_or (breaks_of q w) (length (breaks_of q w) - 1) 0 (omega (arith, count, some))
        ∙ ap Some
        (ap (λ (k : ℕ). get_or (breaks_of q w) k 0) at
        ∙ break-legal (length w.earlier - 1) (omega (arith, some))
        ∙ ap (λ (k : ℕ). get_or (legal_of rule.params rule.items) (k - 1) 0) (last_node some ∙ long)
        ∙ last_legal rule)

    pub way_ends : AreLineEnds rule (breaks_of q w)
    way_ends = record { legal = breaks-legal; rise = breaks-rise; last = break-last }
