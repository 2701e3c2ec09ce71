-- A line put among those recorded, as the array keeps them.
--     put_less, put_same, put_end     before a later one, at its own node, and after all
--     all_inserted                    what holds of each element, where one is inserted
use Rattle.std.proofs.Common.{◌≡◌, ℕ, zero, suc, ◌<◌, Bool, true, false, cond, List, [], ◌∷◌, ◌++◌, map, length, get_or, set, take, drop, Option, ◌+◌, ◌≤◌, refl, sym, ap, ◌∙◌, below_more, arith}
use Rattle.std.specs.Prelude.{int_le}
use Rattle.std.specs.List.{All}
use Rattle.std.proofs.lemmas.List.{get_or_read}
use Rattle.std.proofs.lemmas.List.Elements.{All-append, All-take, All-cons, All-drop}
use Rattle.std.specs.declared.cmp.Ordering.{Ordering}
use Rattle.std.specs.declared.cmp.Ordering.TheVariants.{Less, Equal, Greater}
use Rattle.line_break.specs.declared.node.Way.{Way}
use Rattle.line_break.specs.Pass.{Pass, order}
use Rattle.line_break.specs.Sweep.{put}
use Rattle.break_sweep.specs.declared.made.Made.{Made}
use Rattle.break_sweep.specs.Made.{way_of}

-- The lines before an index are all lower.
abbrev pub AreLower : Option ℕ → Made → List Made → ℕ → Type 0
AreLower ended x ms i = (k : ℕ) → k < i → order ended x.node (get_or ms k x).node ≡ Greater

-- What is known where the line is compared with that at an index.
pub record IsAt (ended : Option ℕ) (x : Made) (ms now : List Made) (i : ℕ) (r : Made) (o : Ordering) : Type 0 where
  pub same : now ≡ ms
  pub within : i < length ms
  pub low : AreLower ended x ms i
  pub read : r ≡ get_or now i r
  pub compared : o ≡ order ended x.node r.node

module _ (q : Pass) (ws : List Way) (x : Made) where
  abbrev ways : List Made → List Way
  ways ms = map (way_of ws) ms

  pub put_less : (ended : Option ℕ) → q.open_ended ≡ ended → (ms : List Made) (i : ℕ) → i < length ms → AreLower ended x ms i → order ended x.node (get_or ms i x).node ≡ Less
      → ways (take i ms ++ x ∷ drop i ms) ≡ put q (ways ms) (way_of ws x)
  unfolding put
  put_less ended e [] i h low here = absurd (omega arith)
  put_less ended e (m ∷ ms) zero h low here =
      let k : order q.open_ended x.node m.node ≡ Less = ap (λ o. order o x.node m.node) e ∙ here in
      rw k refl
  put_less ended e (m ∷ ms) (suc i) h low here =
      let k : order q.open_ended x.node m.node ≡ Greater = ap (λ o. order o x.node m.node) e ∙ low 0 (omega arith) in
      let rest = put_less ended e ms i (omega arith) (λ j l. low (suc j) (omega arith)) here in
      rw (k, ← rest) refl

  pub put_same : (ended : Option ℕ) → q.open_ended ≡ ended → (ms : List Made) (i : ℕ) → i < length ms → AreLower ended x ms i → order ended x.node (get_or ms i x).node ≡ Equal
      → (t : Bool) → int_le x.total (get_or ms i x).total ≡ t
      → ways (cond t (set ms i x) ms) ≡ put q (ways ms) (way_of ws x)
  unfolding put
  put_same ended e [] i h low here t n = absurd (omega arith)
  put_same ended e (m ∷ ms) zero h low here true n =
      let k : order q.open_ended x.node m.node ≡ Equal = ap (λ o. order o x.node m.node) e ∙ here in
      rw (k, n) refl
  put_same ended e (m ∷ ms) zero h low here false n =
      let k : order q.open_ended x.node m.node ≡ Equal = ap (λ o. order o x.node m.node) e ∙ here in
      rw (k, n) refl
  put_same ended e (m ∷ ms) (suc i) h low here true n =
      let k : order q.open_ended x.node m.node ≡ Greater = ap (λ o. order o x.node m.node) e ∙ low 0 (omega arith) in
      let rest = put_same ended e ms i (omega arith) (λ j l. low (suc j) (omega arith)) here true n in
      rw (k, ← rest) refl
  put_same ended e (m ∷ ms) (suc i) h low here false n =
      let k : order q.open_ended x.node m.node ≡ Greater = ap (λ o. order o x.node m.node) e ∙ low 0 (omega arith) in
      let rest = put_same ended e ms i (omega arith) (λ j l. low (suc j) (omega arith)) here false n in
      rw (k, ← rest) refl

  pub put_end : (ended : Option ℕ) → q.open_ended ≡ ended → (ms : List Made) → AreLower ended x ms (length ms)
      → ways (ms ++ x ∷ []) ≡ put q (ways ms) (way_of ws x)
  unfolding put
  put_end ended e [] low = refl
  put_end ended e (m ∷ ms) low =
      let k : order q.open_ended x.node m.node ≡ Greater = ap (λ o. order o x.node m.node) e ∙ low 0 (omega arith) in
      let rest = put_end ended e ms (λ j l. low (suc j) (omega arith)) in
      rw (k, ← rest) refl

  read_at : (ended : Option ℕ) (ms now : List Made) (i : ℕ) (r : Made) (o : Ordering) → IsAt ended x ms now i r o → r ≡ get_or ms i x
  read_at ended ms now i r o h = get_or_read ms i r h.within (h.read ∙ ap (λ l. get_or l i r) h.same) x

  pub put_less_at : (ended : Option ℕ) (ms now new : List Made) (i : ℕ) (r : Made) → IsAt ended x ms now i r Less → new ≡ take i now ++ x ∷ drop i now → q.open_ended ≡ ended
      → ways new ≡ put q (ways ms) (way_of ws x)
  put_less_at ended ms now new i r h n e =
      ap ways (n ∙ ap (λ l. take i l ++ x ∷ drop i l) h.same)
      ∙ put_less ended e ms i h.within h.low (ap (λ m. order ended x.node m.node) (sym (read_at ended ms now i r Less h)) ∙ sym h.compared)

  pub put_same_at : (ended : Option ℕ) (ms now : List Made) (i : ℕ) (r : Made) (t : Bool) → IsAt ended x ms now i r Equal → int_le x.total r.total ≡ t → q.open_ended ≡ ended
      → ways (cond t (set now i x) now) ≡ put q (ways ms) (way_of ws x)
  put_same_at ended ms now i r t h n e =
      let at = read_at ended ms now i r Equal h in
      ap (λ l. ways (cond t (set l i x) l)) h.same
      ∙ put_same ended e ms i h.within h.low (ap (λ m. order ended x.node m.node) (sym at) ∙ sym h.compared) t (ap (λ m. int_le x.total m.total) (sym at) ∙ n)

  pub put_end_at : (ended : Option ℕ) (ms now new : List Made) (i : ℕ) → now ≡ ms → length ms ≤ i → AreLower ended x ms i → new ≡ now ++ x ∷ [] → q.open_ended ≡ ended
      → ways new ≡ put q (ways ms) (way_of ws x)
  put_end_at ended ms now new i s h low n e =
      ap ways (n ∙ ap (λ l. l ++ x ∷ []) s) ∙ put_end ended e ms (λ k l. low k (omega arith))

pub all_inserted : {X : Type 0} (P : X → Type 0) (xs : List X) (i : ℕ) (x : X) → P x → All P xs → All P (take i xs ++ x ∷ drop i xs)
all_inserted P xs i x h all = All-append P (take i xs) (x ∷ drop i xs) (All-take P i xs all) (All-cons P x (drop i xs) h (All-drop P i xs all))

pub lower_more : (ended : Option ℕ) (x : Made) (ms now : List Made) (i : ℕ) (r : Made) → IsAt ended x ms now i r Greater → AreLower ended x ms (i + 1)
lower_more ended x ms now i r h =
    below_more _ _ h.low (ap (λ m. order ended x.node m.node) (sym (get_or_read ms i r h.within (h.read ∙ ap (λ l. get_or l i r) h.same) x)) ∙ sym h.compared)
