-- The ways that an array of nodes spells.
--     ways_length               as many as there are nodes
--     read_last, read_total     the way at an index has the node there
--     ways_more                 nodes made later leave the earlier ways alone
--     listed_more, listed_at    the ways of indices
use Rattle.std.proofs.Common.{◌≡◌, ℕ, zero, suc, ◌+◌, ◌<◌, List, [], ◌∷◌, ◌++◌, map, length, get_or, drop, Option, Some, refl, sym, ap, ◌∙◌, append_assoc, arith}
use Rattle.std.specs.List.{fold, slice_get, All}
use Rattle.std.proofs.lemmas.List.{append-nil, length_push, length-map, map_push, get_or-map, get_or_append_left, drop_at, map-append}
use Rattle.std.proofs.lemmas.List.Sums.{fold-append}
use Rattle.std.proofs.lemmas.List.Elements.{All-head, All-tail}
use Rattle.std.proofs.lemmas.Option.{slice_get-get_or}
use Rattle.line_break.specs.declared.node.Way.{Way}
use Rattle.break_sweep.specs.declared.made.Made.{Made}
use Rattle.break_sweep.specs.Made.{nodes_of, way_of, and_way, ways_of, no_way, way_at, listed}

length_from : (ws : List Way) (ms : List Made) → length (fold and_way ws ms) ≡ length ws + length ms
length_from ws [] = omega arith
length_from ws (m ∷ ms) =
    let rest = length_from (ws ++ way_of ws m ∷ []) ms in
    let one = length_push ws (way_of ws m) in
    omega arith

pub ways_length : (ms : List Made) → length (ways_of ms) ≡ length ms
unfolding ways_of
ways_length ms = let h = length_from [] ms in omega arith

fields_from : {X : Type 0} (f : Way → X) (g : Made → X) → ((ws : List Way) (m : Made) → f (way_of ws m) ≡ g m) → (ws : List Way) (ms : List Made)
    → map f (fold and_way ws ms) ≡ map f ws ++ map g ms
fields_from f g same ws [] = sym (append-nil (map f ws))
fields_from f g same ws (m ∷ ms) =
    fields_from f g same (ws ++ way_of ws m ∷ []) ms
    ∙ (ap (λ l. l ++ map g ms) (map_push f ws (way_of ws m) ∙ ap (λ x. map f ws ++ x ∷ []) (same ws m))
    ∙ append_assoc (map f ws) (g m ∷ []) (map g ms))

field_at : {X : Type 0} (f : Way → X) (g : Made → X) → ((ws : List Way) (m : Made) → f (way_of ws m) ≡ g m) → (ms : List Made) (k : ℕ) (d : Made) → k < length ms
    → f (way_at (ways_of ms) k) ≡ g (get_or ms k d)
unfolding ways_of
field_at f g same ms k d h =
    let n = ways_length ms in
    sym (get_or-map f (ways_of ms) k no_way (f no_way) (omega arith))
    ∙ (ap (λ l. get_or l k (f no_way)) (fields_from f g same [] ms)
    ∙ get_or-map g ms k d (f no_way) h)

pub read_last : (ms : List Made) (k : ℕ) (d : Made) → k < length ms → (way_at (ways_of ms) k).last ≡ (get_or ms k d).node
read_last ms k d h = field_at (λ w. w.last) (λ m. m.node) (λ _ _. refl) ms k d h

pub read_total : (ms : List Made) (k : ℕ) (d : Made) → k < length ms → (way_at (ways_of ms) k).total ≡ (get_or ms k d).total
read_total ms k d h = field_at (λ w. w.total) (λ m. m.total) (λ _ _. refl) ms k d h

pub way_read : (ms : List Made) (k : ℕ) → k < length ms → slice_get (ways_of ms) k ≡ Some (way_at (ways_of ms) k)
way_read ms k h = let n = ways_length ms in slice_get-get_or (ways_of ms) k no_way (omega arith)

slice_get_left : {X : Type 0} (xs ys : List X) (i : ℕ) → i < length xs → slice_get (xs ++ ys) i ≡ slice_get xs i
slice_get_left [] ys i h = absurd (omega arith)
slice_get_left (x ∷ xs) ys zero h = refl
slice_get_left (x ∷ xs) ys (suc i) h = slice_get_left xs ys i (omega arith)

way_kept : (ws more : List Way) (m : Made) → m.before < length ws → way_of (ws ++ more) m ≡ way_of ws m
way_kept ws more m h =
    ap (λ (o : Option Way). record { last = m.node; earlier = nodes_of o; total = m.total }) (slice_get_left ws more m.before h)

ways_from : (ws more : List Way) (new : List Made) → All (λ m. m.before < length ws) new → fold and_way (ws ++ more) new ≡ (ws ++ more) ++ map (way_of ws) new
ways_from ws more [] all = sym (append-nil (ws ++ more))
ways_from ws more (m ∷ ms) all =
    let P : Made → Type 0 = λ x. x.before < length ws in
    let x = way_of ws m in
    ap (λ w. fold and_way ((ws ++ more) ++ w ∷ []) ms) (way_kept ws more m (All-head P m ms all))
    ∙ (ap (λ l. fold and_way l ms) (append_assoc ws more (x ∷ []))
    ∙ (ways_from ws (more ++ x ∷ []) ms (All-tail P m ms all)
    ∙ (ap (λ l. l ++ map (way_of ws) ms) (sym (append_assoc ws more (x ∷ [])))
    ∙ append_assoc (ws ++ more) (x ∷ []) (map (way_of ws) ms))))

pub ways_more : (ms new : List Made) → All (λ m. m.before < length ms) new → ways_of (ms ++ new) ≡ ways_of ms ++ map (way_of (ways_of ms)) new
unfolding ways_of
ways_more ms new all =
    let ws = fold and_way [] ms in
    let n = ways_length ms in
    fold-append and_way [] ms new
    ∙ (ap (λ l. fold and_way l new) (sym (append-nil ws))
    ∙ (ways_from ws [] new (λ k d h. let b = all k d h in omega arith)
    ∙ ap (λ l. l ++ map (way_of ws) new) (append-nil ws)))

pub new_ways : (ms new : List Made) → All (λ m. m.before < length ms) new → drop (length ms) (ways_of (ms ++ new)) ≡ map (way_of (ways_of ms)) new
new_ways ms new all = ap (drop (length ms)) (ways_more ms new all) ∙ drop_at (ways_of ms) (map (way_of (ways_of ms)) new) (length ms) (ways_length ms)

listed_left : (ws more : List Way) (indices : List ℕ) → All (λ i. i < length ws) indices → listed (ws ++ more) indices ≡ listed ws indices
unfolding listed
listed_left ws more [] all = refl
listed_left ws more (i ∷ is) all =
    let P : ℕ → Type 0 = λ k. k < length ws in
    let here = get_or_append_left ws more no_way i (All-head P i is all) in
    let rest = listed_left ws more is (All-tail P i is all) in
    rw (here, rest) refl

pub listed_more : (ms new : List Made) (indices : List ℕ) → All (λ m. m.before < length ms) new → All (λ i. i < length ms) indices
    → listed (ways_of (ms ++ new)) indices ≡ listed (ways_of ms) indices
listed_more ms new indices all named =
    let n = ways_length ms in
    ap (λ ws. listed ws indices) (ways_more ms new all)
    ∙ listed_left (ways_of ms) (map (way_of (ways_of ms)) new) indices (λ k d h. let b = named k d h in omega arith)

pub listed_length : (ws : List Way) (indices : List ℕ) → length (listed ws indices) ≡ length indices
unfolding listed
listed_length ws indices = length-map indices (way_at ws)

pub listed_at : (ws : List Way) (indices : List ℕ) (k d : ℕ) (w : Way) → k < length indices → get_or (listed ws indices) k w ≡ way_at ws (get_or indices k d)
unfolding listed
listed_at ws indices k d w h = get_or-map (way_at ws) indices k d w h

pub listed_push : (ws : List Way) (indices more : List ℕ) → listed ws (indices ++ more) ≡ listed ws indices ++ listed ws more
unfolding listed
listed_push ws indices more = map-append (way_at ws) indices more
