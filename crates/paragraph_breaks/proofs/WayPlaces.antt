-- The places of a way, one after another.
--     node-back              the nodes, counted from the start
--     way_length             as many as lines
--     place_at               the place at the end of a line
--     place_within, place_step    the place at the end of a line is legal, and one more
--     nodes-high             nodes are behind the start and not past the last
--     all_within             all places of a way of a pass are among its legal places
use Rattle.std.proofs.Common.{◌≡◌, ℕ, zero, suc, ◌+◌, ◌-◌, ◌<◌, ◌≤◌, refl, ap, sym, ◌∙◌, cond, ◌==◌, Bool, true, false, List, [], ◌∷◌, ◌++◌, map, reverse, take, length, get_or, All, arith}
use Rattle.std.proofs.lemmas.List.{length-drop, length-map, length-reverse, get_or-map, get_or-drop, get_or-reverse, get_or_default, map_more, take_all}
use Rattle.std.proofs.lemmas.List.Elements.{All-from_get_or, All-get_or}
use Rattle.std.proofs.lemmas.Bool.Decides.{nat_tests}
use Rattle.line_break.specs.declared.node.Node.{Node}
use Rattle.line_break.specs.declared.node.Way.{Way}
use Rattle.line_break.specs.Best.{end_of, to_the_end}
use Rattle.line_break.specs.Laws.{EachStep, IsLine}
use Rattle.line_break.specs.Members.{Among}
use Rattle.line_break.specs.Pass.{Pass}
use Rattle.line_break.specs.Taken.{places_of}
use Rattle.line_break.specs.Ways.{start}
use Rattle.line_break.proofs.Ending.{to_end_parts}
use Rattle.line_break.proofs.MadeOfLines.{made_of_lines}
use Rattle.paragraph_breaks.specs.WayNodes.{node_at}

-- the node after so many, counted from the start
pub node-back : (w : Way) (line : ℕ) → line < length w.earlier
    → get_or (w.last ∷ w.earlier) (length w.earlier - 1 - line) w.last ≡ node_at w line
node-back w line below = by (line + 1 == length w.earlier) refl
  where
    by : (ends : Bool) → (line + 1 == length w.earlier) ≡ ends
        → get_or (w.last ∷ w.earlier) (length w.earlier - 1 - line) w.last
        ≡ cond ends w.last (get_or w.earlier (length w.earlier - 2 - line) w.last)
    by true e =
        let none : length w.earlier - 1 - line ≡ 0 = grind (arith, nat_tests) in
        ap (λ (k : ℕ). get_or (w.last ∷ w.earlier) k w.last) none
    by false e =
        let some : length w.earlier - 1 - line ≡ suc (length w.earlier - 2 - line) = grind (arith, nat_tests) in
        ap (λ (k : ℕ). get_or (w.last ∷ w.earlier) k w.last) some

pub way_length : (w : Way) → length (places_of w) ≡ length w.earlier
way_length w =
    let all = map (λ (x : Node). x.place) (reverse (w.last ∷ w.earlier)) in
    let a = length-drop 1 all in
    let b = length-map (reverse (w.last ∷ w.earlier)) (λ (x : Node). x.place) in
    let c = length-reverse (w.last ∷ w.earlier) in
    omega (arith, a, b, c)

pub place_at : (w : Way) (line d : ℕ) → line < length w.earlier → get_or (places_of w) line d ≡ (node_at w line).place
place_at w line d below =
    let nodes = w.last ∷ w.earlier in
    let all = map (λ (x : Node). x.place) (reverse nodes) in
    let count = length-reverse nodes in
    let back : length nodes - 1 - (1 + line) ≡ length w.earlier - 1 - line = omega arith in
    get_or-drop 1 all line d
    ∙ get_or-map (λ (x : Node). x.place) (reverse nodes) (1 + line) w.last d (omega (arith, count))
    ∙ ap (λ (x : Node). x.place)
    (get_or-reverse nodes (1 + line) w.last (omega arith) ∙ ap (λ (k : ℕ). get_or nodes k w.last) back ∙ node-back w line below)

pub place_within : (w : Way) (n line : ℕ) (x : Node) → All (λ place. (0 < place) × (place ≤ n)) (places_of w) → line < length w.earlier
    → x ≡ node_at w line → (0 < x.place) × (x.place ≤ n)
place_within w n line x all below is =
    let count = way_length w in
    let high = All-get_or (λ place. (0 < place) × (place ≤ n)) (places_of w) line 0 (omega (arith, count, below)) all in
    let at = place_at w line 0 below in
    let same = ap (λ (y : Node). y.place) is in
    (omega (arith, high.0, at, same), omega (arith, high.1, at, same))

pub place_step : (w : Way) (f : ℕ → ℕ) (line : ℕ) (x : Node) (breaks next : List ℕ) → line < length w.earlier → x ≡ node_at w line
    → breaks ≡ map f (take line (places_of w)) → next ≡ breaks ++ f x.place ∷ [] → next ≡ map f (take (line + 1) (places_of w))
place_step w f line x breaks next below is so_far more =
    let count = way_length w in
    let at : x.place ≡ get_or (places_of w) line 0 = ap (λ (y : Node). y.place) is ∙ sym (place_at w line 0 below) in
    more
    ∙ ap (λ (bs : List ℕ). bs ++ f x.place ∷ []) so_far
    ∙ ap (λ (place : ℕ). map f (take line (places_of w)) ++ f place ∷ []) at
    ∙ sym (map_more f (places_of w) line 0 (omega (arith, count, below)))

pub all_placed : (w : Way) (f : ℕ → ℕ) (line : ℕ) → length w.earlier ≤ line → map f (take line (places_of w)) ≡ map f (places_of w)
all_placed w f line past = let count = way_length w in ap (map f) (take_all line (places_of w) (omega (arith, count, past)))

-- a node that has one before it is behind the start, and none is past the last
pub nodes-high : (q : Pass) (s x : Node) (before : List Node) → EachStep (IsLine q) s x before → (k : ℕ) → k < length before
    → (0 < (get_or (x ∷ before) k x).place) × ((get_or (x ∷ before) k x).place ≤ x.place)
nodes-high q s x [] steps k below = absurd (omega arith)
nodes-high q s x (y ∷ ys) steps zero below = let forward = steps.0.forward in (omega (arith, forward), omega arith)
nodes-high q s x (y ∷ ys) steps (suc k) below =
    let forward = steps.0.forward in
    let within : k < length ys = omega arith in
    let rest = nodes-high q s y ys steps.1 k within in
    let same : get_or (y ∷ ys) k x ≡ get_or (y ∷ ys) k y = get_or_default (y ∷ ys) k x y (omega arith) in
    let at = ap (λ (n : Node). n.place) same in
    (omega (arith, rest.0, at), omega (arith, rest.1, at, forward))

module _ (q : Pass) (forced : q.forced (end_of q) ≡ true) where
  pub all_within : (w : Way) → Among (to_the_end q) w → All (λ place. (0 < place) × (place ≤ length q.legal)) (places_of w)
  all_within w m =
      let parts = to_end_parts q forced w m in
      let made = made_of_lines q (end_of q) w parts.0 in
      let count = way_length w in
      All-from_get_or (λ place. (0 < place) × (place ≤ length q.legal)) (places_of w) 0
      (λ line below.
      let within : line < length w.earlier = omega (arith, count, below) in
      let here : get_or (places_of w) line 0 ≡ (get_or (w.last ∷ w.earlier) (length w.earlier - 1 - line) w.last).place
      = place_at w line 0 within ∙ ap (λ (x : Node). x.place) (sym (node-back w line within)) in
      let high = nodes-high q (start q).last w.last w.earlier made.lines (length w.earlier - 1 - line) (omega (arith, within)) in
      let last = parts.1 in
      (omega (arith, high.0, here), omega (arith, high.1, here, last)))
