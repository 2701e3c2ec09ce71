-- Putting nodes into a list in the order of nodes.
--     Yields, AllYield              a way with no higher total may take the place of one before it
--     put_ascends, put_covers       of one way
--     puts_ascend, puts_cover       of a list of them
--     put_last, put_between         where a node goes
--     ascends_filter                a filter keeps the order
use Rattle.std.proofs.Common.{◌≡◌, Bool, true, false, cond, List, [], ◌∷◌, ◌++◌, filter, ◌≤ℤ◌, refl, sym, ap, ◌∙◌, subst, inl, inr, ⊎_elim}
use Rattle.std.specs.Prelude.{◌⊎◌, int_le}
use Rattle.std.specs.List.{fold}
use Rattle.std.specs.declared.cmp.Ordering.{Ordering}
use Rattle.std.specs.declared.cmp.Ordering.TheVariants.{Less, Equal, Greater}
use Rattle.std.specs.Ordering.{is_gt, match_ordering}
use Rattle.line_break.specs.declared.node.Way.{Way}
use Rattle.line_break.specs.Members.{Among, Ascends}
use Rattle.line_break.specs.Pass.{Pass, order}
use Rattle.line_break.specs.Best.{preference}
use Rattle.line_break.specs.Sweep.{put}
use Rattle.line_break.proofs.MemberLemmas.{Among-append_left, Among-append_right, Among-append_cases, Among-passes, greater_back, itself_not_greater}
use Rattle.line_break.proofs.OrderLemmas.{int_le-true, int_le-false, order_total, order_same, preference_total, lower_preferred}
use Rattle.line_break.proofs.Covering.{Covers, HasNoWorse, covers-itself, covers-trans, covers-append, covers-members}
use Rattle.line_break.proofs.TriedNodes.{by_node}

pub ascends_filter : {X : Type 0} (c : X → X → Ordering) (p : X → Bool) (xs : List X) → Ascends c xs → Ascends c (filter p xs)
ascends_filter c p [] a = tt
ascends_filter {X} c p (x ∷ xs) a = by (p x) (ascends_filter c p xs a.1)
  where
    by : (t : Bool) → Ascends c (filter p xs) → Ascends c (cond t (x ∷ filter p xs) (filter p xs))
    by true h = (λ y m. a.0 y (Among-passes p xs y m).0, h)
    by false h = h

swapped : {X : Type 0} (a b x : X) (xs : List X) → Among (a ∷ b ∷ xs) x → Among (b ∷ a ∷ xs) x
swapped a b x xs (inl e) = inr (inl e)
swapped a b x xs (inr (inl e)) = inl e
swapped a b x xs (inr (inr m)) = inr (inr m)

moved_in : {X : Type 0} (a x : X) (xs ys : List X) → Among ((a ∷ xs) ++ ys) x → Among (xs ++ (a ∷ ys)) x
moved_in a x xs ys (inl e) = Among-append_right xs (a ∷ ys) x (inl e)
moved_in a x xs ys (inr m) = ⊎_elim (λ k. Among-append_left xs (a ∷ ys) x k) (λ k. Among-append_right xs (a ∷ ys) x (inr k)) (Among-append_cases xs ys x m)

moved_out : {X : Type 0} (a x : X) (xs ys : List X) → Among (xs ++ (a ∷ ys)) x → Among ((a ∷ xs) ++ ys) x
moved_out a x xs ys m = ⊎_elim (λ k. inr (Among-append_left xs ys x k)) (λ k. ⊎_elim (λ (e : x ≡ a). inl e) (λ n. inr (Among-append_right xs ys x n)) k) (Among-append_cases xs (a ∷ ys) x m)

module _ (q : Pass) where
  -- y may take the place of z at its node where its total is no higher
  abbrev pub Yields : Way → Way → Type 0
  Yields z y = z.last ≡ y.last → y.total ≤ℤ z.total → is_gt (preference q.open_ended y z) ≡ false

  abbrev pub AllYield : List Way → Type 0
  AllYield [] = Unit {0}
  AllYield (z ∷ zs) = ((y : Way) → Among zs y → Yields z y) × AllYield zs

  put_among : (vs : List Way) (w x : Way) → Among (put q vs w) x → (x ≡ w) ⊎ Among vs x
  unfolding put
  put_among [] w x m = m
  put_among (v ∷ vs) w x m = by (order q.open_ended w.last v.last) m (put_among vs w x)
    where
      pick : (t : Bool) → Among (cond t w v ∷ vs) x → (x ≡ w) ⊎ Among (v ∷ vs) x
      pick true (inl e) = inl e
      pick true (inr n) = inr (inr n)
      pick false n = inr n

      by : (o : Ordering) → Among (match_ordering o (w ∷ v ∷ vs) (cond (int_le w.total v.total) w v ∷ vs) (v ∷ put q vs w)) x → (Among (put q vs w) x → (x ≡ w) ⊎ Among vs x) → (x ≡ w) ⊎ Among (v ∷ vs) x
      by Less n h = n
      by Equal n h = pick (int_le w.total v.total) n
      by Greater (inl e) h = inr (inl e)
      by Greater (inr n) h = ⊎_elim (λ (e : x ≡ w). inl e) (λ k. inr (inr k)) (h n)

  put_ascends : (vs : List Way) (w : Way) → Ascends (by_node q) vs → Ascends (by_node q) (put q vs w)
  unfolding put
  put_ascends [] w a = (λ y m. absurd m, tt)
  put_ascends (v ∷ vs) w a = by (order q.open_ended w.last v.last) refl (put_ascends vs w a.1)
    where
      same : (t : Bool) → w.last ≡ v.last → Ascends (by_node q) (cond t w v ∷ vs)
      same true e = (λ y m. ap (λ x. order q.open_ended x y.last) e ∙ a.0 y m, a.1)
      same false e = a

      by : (o : Ordering) → order q.open_ended w.last v.last ≡ o → Ascends (by_node q) (put q vs w) → Ascends (by_node q) (match_ordering o (w ∷ v ∷ vs) (cond (int_le w.total v.total) w v ∷ vs) (v ∷ put q vs w))
      by Less e h = (λ y m. ⊎_elim (λ (k : y ≡ v). subst (λ z. order q.open_ended w.last z.last ≡ Less) (sym k) e) (λ k. (order_total q.open_ended).trans w.last v.last y.last e (a.0 y k)) m, a)
      by Equal e h = same (int_le w.total v.total) (order_same q.open_ended w.last v.last e)
      by Greater e h = (λ y m. ⊎_elim (λ (k : y ≡ w). subst (λ z. order q.open_ended v.last z.last ≡ Less) (sym k) (greater_back (order_total q.open_ended) w.last v.last e)) (λ k. a.0 y k) (put_among vs w y m), h)

  own : (few : List Way) (w : Way) → Among few w → HasNoWorse q.open_ended few w
  own few w m = (w, m, refl, itself_not_greater (preference_total q.open_ended) w)

  put_covers : (vs : List Way) (w : Way) → ((v : Way) → Among vs v → Yields v w) → Covers q.open_ended (put q vs w) (w ∷ vs)
  unfolding put
  put_covers [] w y = covers-itself (w ∷ [])
  put_covers (v ∷ vs) w y = by (order q.open_ended w.last v.last) refl (put_covers vs w (λ x m. y x (inr m)))
    where
      pick : (t : Bool) → int_le w.total v.total ≡ t → w.last ≡ v.last → Covers q.open_ended (cond t w v ∷ vs) (w ∷ v ∷ vs)
      pick true e n = record {
        within = λ x m. ⊎_elim (λ (k : x ≡ w). inl k) (λ k. inr (inr k)) m;
        covered = λ x m. ⊎_elim
            (λ (k : x ≡ w). own (w ∷ vs) x (inl k))
            (λ (r : (x ≡ v) ⊎ Among vs x). ⊎_elim
            (λ (k : x ≡ v). subst (HasNoWorse q.open_ended (w ∷ vs)) (sym k) (w, inl refl, n, y v (inl refl) (sym n) (int_le-true w.total v.total e)))
            (λ k. own (w ∷ vs) x (inr k)) r)
            m;
      }
      pick false e n = record {
        within = λ x m. inr m;
        covered = λ x m. ⊎_elim
            (λ (k : x ≡ w). subst (HasNoWorse q.open_ended (v ∷ vs)) (sym k) (v, inl refl, sym n, ap is_gt (lower_preferred q.open_ended v w (int_le-false w.total v.total e))))
            (λ k. own (v ∷ vs) x k)
            m;
      }

      by : (o : Ordering) → order q.open_ended w.last v.last ≡ o → Covers q.open_ended (put q vs w) (w ∷ vs) → Covers q.open_ended (match_ordering o (w ∷ v ∷ vs) (cond (int_le w.total v.total) w v ∷ vs) (v ∷ put q vs w)) (w ∷ v ∷ vs)
      by Less e h = covers-itself (w ∷ v ∷ vs)
      by Equal e h = pick (int_le w.total v.total) refl (order_same q.open_ended w.last v.last e)
      by Greater e h = covers-members (λ x m. swapped v w x vs m) (λ x m. swapped w v x vs m) (covers-append (covers-itself (v ∷ [])) h)

  pub puts_ascend : (vs ws : List Way) → Ascends (by_node q) vs → Ascends (by_node q) (fold (put q) vs ws)
  puts_ascend vs [] a = a
  puts_ascend vs (w ∷ ws) a = puts_ascend (put q vs w) ws (put_ascends vs w a)

  pub puts_cover : (vs ws : List Way) → ((v w : Way) → Among vs v → Among ws w → Yields v w) → AllYield ws → Covers q.open_ended (fold (put q) vs ws) (vs ++ ws)
  puts_cover vs [] y a =
      covers-members (λ x m. Among-append_left vs [] x m) (λ x m. ⊎_elim (λ k. k) (λ k. absurd k) (Among-append_cases vs [] x m)) (covers-itself vs)
  puts_cover vs (w ∷ ws) y a =
      covers-trans
      (puts_cover (put q vs w) ws (λ v x m n. ⊎_elim (λ (k : v ≡ w). subst (λ z. Yields z x) (sym k) (a.0 x n)) (λ k. y v x k (inr n)) (put_among vs w v m)) a.1)
      (covers-members (λ x m. moved_in w x vs ws m) (λ x m. moved_out w x vs ws m)
      (covers-append (put_covers vs w (λ v m. y v w m (inl refl))) (covers-itself ws)))

  -- A node that is after all others goes to the end, and one that is after some and before the rest goes between them.
  pub put_last : (vs : List Way) (w : Way) → ((v : Way) → Among vs v → order q.open_ended w.last v.last ≡ Greater) → put q vs w ≡ vs ++ w ∷ []
  unfolding put
  put_last [] w h = refl
  put_last (v ∷ vs) w h =
      let here = h v (inl refl) in
      let rest = put_last vs w (λ x m. h x (inr m)) in
      rw (here, rest) refl

  pub put_between : (vs : List Way) (w x : Way) (xs : List Way) → ((v : Way) → Among vs v → order q.open_ended w.last v.last ≡ Greater) → order q.open_ended w.last x.last ≡ Less
      → put q (vs ++ x ∷ xs) w ≡ vs ++ w ∷ x ∷ xs
  unfolding put
  put_between [] w x xs h k = rw k refl
  put_between (v ∷ vs) w x xs h k =
      let here = h v (inl refl) in
      let rest = put_between vs w x xs (λ y m. h y (inr m)) k in
      rw (here, rest) refl
