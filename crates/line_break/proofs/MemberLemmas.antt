-- The members of lists.
--     Among-append_left, -append_right, -append_cases     of two lists in a row
--     Among-filter, Among-passes                          of what a filter keeps
--     Among-map, Among-mapped                             of the images
--     filter_same, all_same                               two tests that agree at the members
--     filter_twice                                        a filter of what a filter keeps
--     all_at, all_from, all_fails                         what a test of all members says
--     IsFirst, first_by_is, has_first                     the first by an order
use Rattle.std.proofs.Common.{◌≡◌, Bool, true, false, cond, ◌&&◌, List, [], ◌∷◌, ◌++◌, map, filter, Some, refl, sym, ap, ◌∙◌, subst, inl, inr, ⊎_elim}
use Rattle.std.specs.Prelude.{◌⊎◌}
use Rattle.std.specs.List.{list_all}
use Rattle.std.specs.Cmp.{IsTotalOrder}
use Rattle.std.specs.declared.cmp.Ordering.{Ordering}
use Rattle.std.specs.declared.cmp.Ordering.TheVariants.{Less, Equal, Greater}
use Rattle.std.specs.Ordering.{is_lt, is_gt, ordering_reverse}
use Rattle.std.proofs.lemmas.Bool.{false≢true, and_parts, and_cases}
use Rattle.std.proofs.lemmas.Cmp.{tied_itself, upto}
use Rattle.line_break.specs.Members.{Among, first_by, first_of_two}

module _ {X : Type 0} where
  pub Among-append_left : (xs ys : List X) (x : X) → Among xs x → Among (xs ++ ys) x
  Among-append_left [] ys x m = absurd m
  Among-append_left (z ∷ zs) ys x (inl e) = inl e
  Among-append_left (z ∷ zs) ys x (inr m) = inr (Among-append_left zs ys x m)

  pub Among-append_right : (xs ys : List X) (x : X) → Among ys x → Among (xs ++ ys) x
  Among-append_right [] ys x m = m
  Among-append_right (z ∷ zs) ys x m = inr (Among-append_right zs ys x m)

  pub Among-append_cases : (xs ys : List X) (x : X) → Among (xs ++ ys) x → Among xs x ⊎ Among ys x
  Among-append_cases [] ys x m = inr m
  Among-append_cases (z ∷ zs) ys x (inl e) = inl (inl e)
  Among-append_cases (z ∷ zs) ys x (inr m) = ⊎_elim (λ l. inl (inr l)) (λ r. inr r) (Among-append_cases zs ys x m)

module _ {X : Type 0} (p : X → Bool) where
  pub Among-filter : (xs : List X) (x : X) → Among xs x → p x ≡ true → Among (filter p xs) x
  Among-filter [] x m e = absurd m
  Among-filter (y ∷ ys) x m e = by (p y) refl m (λ r. Among-filter ys x r e)
    where
      by : (b : Bool) → p y ≡ b → (x ≡ y) ⊎ Among ys x → (Among ys x → Among (filter p ys) x) → Among (cond b (y ∷ filter p ys) (filter p ys)) x
      by true k (inl same) rec = inl same
      by true k (inr rest) rec = inr (rec rest)
      by false k (inl same) rec = absurd (false≢true (sym k ∙ ap p (sym same) ∙ e))
      by false k (inr rest) rec = rec rest

  pub Among-passes : (xs : List X) (x : X) → Among (filter p xs) x → Among xs x × (p x ≡ true)
  Among-passes [] x m = absurd m
  Among-passes (y ∷ ys) x m = by (p y) refl m (λ r. Among-passes ys x r)
    where
      by : (b : Bool) → p y ≡ b → Among (cond b (y ∷ filter p ys) (filter p ys)) x → (Among (filter p ys) x → Among ys x × (p x ≡ true)) → Among (y ∷ ys) x × (p x ≡ true)
      by true k (inl same) rec = (inl same, ap p same ∙ k)
      by true k (inr rest) rec = let r = rec rest in (inr r.0, r.1)
      by false k rest rec = let r = rec rest in (inr r.0, r.1)

  pub all_at : (xs : List X) (x : X) → list_all p xs ≡ true → Among xs x → p x ≡ true
  all_at [] x h m = absurd m
  all_at (y ∷ ys) x h (inl e) = ap p e ∙ (and_parts _ _ h).0
  all_at (y ∷ ys) x h (inr m) = all_at ys x (and_parts _ _ h).1 m

  pub all_from : (xs : List X) → ((x : X) → Among xs x → p x ≡ true) → list_all p xs ≡ true
  all_from [] h = refl
  all_from (y ∷ ys) h =
      let here = h y (inl refl) in
      let rest = all_from ys (λ x m. h x (inr m)) in
      rw (here, rest) refl

  pub all_fails : (xs : List X) → list_all p xs ≡ false → (x : X) × Among xs x × (p x ≡ false)
  all_fails [] h = absurd (false≢true (sym h))
  all_fails (y ∷ ys) h =
      ⊎_elim
      (λ (e : p y ≡ false). (y, inl refl, e))
      (λ (e : list_all p ys ≡ false). let r = all_fails ys e in (r.0, inr r.1, r.2))
      (and_cases _ _ h)

pub all_same : {X : Type 0} (p q : X → Bool) (xs : List X) → ((x : X) → Among xs x → p x ≡ q x) → list_all p xs ≡ list_all q xs
all_same p q [] h = refl
all_same p q (x ∷ xs) h =
    let here = h x (inl refl) in
    let rest = all_same p q xs (λ y m. h y (inr m)) in
    rw (here, rest) refl

pub filter_same : {X : Type 0} (p q : X → Bool) (xs : List X) → ((x : X) → Among xs x → p x ≡ q x) → filter p xs ≡ filter q xs
filter_same p q [] h = refl
filter_same p q (x ∷ xs) h =
    let here = h x (inl refl) in
    let rest = filter_same p q xs (λ y m. h y (inr m)) in
    rw (here, rest) refl

pub filter_twice : {X : Type 0} (p q : X → Bool) (xs : List X) → filter q (filter p xs) ≡ filter (λ x. p x && q x) xs
filter_twice p q [] = refl
filter_twice {X} p q (x ∷ xs) = by (p x) (q x) refl (filter_twice p q xs)
  where
    by : (a b : Bool) → q x ≡ b → filter q (filter p xs) ≡ filter (λ y. p y && q y) xs → filter q (cond a (x ∷ filter p xs) (filter p xs)) ≡ cond (a && b) (x ∷ filter (λ y. p y && q y) xs) (filter (λ y. p y && q y) xs)
    by true true e h = rw (e, h) refl
    by true false e h = rw (e, h) refl
    by false b e h = h

module _ {X Y : Type 0} (f : X → Y) where
  pub Among-map : (xs : List X) (x : X) → Among xs x → Among (map f xs) (f x)
  Among-map [] x m = absurd m
  Among-map (z ∷ zs) x (inl e) = inl (ap f e)
  Among-map (z ∷ zs) x (inr m) = inr (Among-map zs x m)

  pub Among-mapped : (xs : List X) (y : Y) → Among (map f xs) y → (x : X) × Among xs x × (y ≡ f x)
  Among-mapped [] y m = absurd m
  Among-mapped (z ∷ zs) y (inl e) = (z, inl refl, e)
  Among-mapped (z ∷ zs) y (inr m) = let r = Among-mapped zs y m in (r.0, inr r.1, r.2)

-- b is a member, and no member is below it
pub record IsFirst {X : Type 0} (c : X → X → Ordering) (xs : List X) (b : X) : Type 0 where
  pub within : Among xs b
  pub least : (x : X) → Among xs x → is_gt (c b x) ≡ false

module _ {X : Type 0} {c : X → X → Ordering} (total : IsTotalOrder c) where
  pub itself_not_greater : (x : X) → is_gt (c x x) ≡ false
  itself_not_greater x = ap is_gt (tied_itself total x)

  pub greater_back : (x y : X) → c x y ≡ Greater → c y x ≡ Less
  greater_back x y e = by (c y x) (sym e ∙ total.antisymm x y)
    where
      by : (o : Ordering) → Greater ≡ ordering_reverse o → o ≡ Less
      by Less h = refl
      by Equal h = cc
      by Greater h = cc

  pub less_back : (x y : X) → c x y ≡ Less → c y x ≡ Greater
  less_back x y e = by (c y x) (sym e ∙ total.antisymm x y)
    where
      by : (o : Ordering) → Less ≡ ordering_reverse o → o ≡ Greater
      by Less h = cc
      by Equal h = cc
      by Greater h = refl

  -- where neither is below the other they are tied
  pub tied_both : (x y : X) → is_gt (c x y) ≡ false → is_gt (c y x) ≡ false → c x y ≡ Equal
  tied_both x y a b = by (c x y) refl a
    where
      by : (o : Ordering) → c x y ≡ o → is_gt o ≡ false → o ≡ Equal
      by Less e h = absurd (false≢true (sym b ∙ ap is_gt (less_back x y e)))
      by Equal e h = refl
      by Greater e h = absurd (false≢true (sym h))

  pub not_less_back : (x y : X) → is_lt (c y x) ≡ false → is_gt (c x y) ≡ false
  not_less_back x y a = by (c x y) refl
    where
      by : (o : Ordering) → c x y ≡ o → is_gt o ≡ false
      by Less e = refl
      by Equal e = refl
      by Greater e = absurd (false≢true (sym a ∙ ap is_lt (greater_back x y e)))

  pub less_not_greater : (x y : X) → is_lt (c x y) ≡ true → is_gt (c x y) ≡ false
  less_not_greater x y a = by (c x y) a
    where
      by : (o : Ordering) → is_lt o ≡ true → is_gt o ≡ false
      by Less e = refl
      by Equal e = refl
      by Greater e = absurd (false≢true e)

  -- the first of a list by an order is a member, and no member is below it
  pub first_by_is : (x : X) (xs : List X) → IsFirst c (x ∷ xs) (first_of_two c x (first_by c xs))
  first_by_is x [] = record {
    within = inl refl;
    least = λ y m. elim m as (λ _. is_gt (c x y) ≡ false) [ inl e ↦ subst (λ z. is_gt (c x z) ≡ false) (sym e) (itself_not_greater x) | inr n ↦ absurd n ];
  }
  first_by_is x (y ∷ ys) = by (first_of_two c y (first_by c ys)) (first_by_is y ys)
    where
      pick : (b : X) → IsFirst c (y ∷ ys) b → (t : Bool) → is_lt (c b x) ≡ t → IsFirst c (x ∷ y ∷ ys) (cond t b x)
      pick b f true e = record {
        within = inr f.within;
        least = λ z m. ⊎_elim (λ (h : z ≡ x). subst (λ v. is_gt (c b v) ≡ false) (sym h) (less_not_greater b x e)) (λ n. f.least z n) m;
      }
      pick b f false e = record {
        within = inl refl;
        least = λ z m. ⊎_elim (λ (h : z ≡ x). subst (λ v. is_gt (c x v) ≡ false) (sym h) (itself_not_greater x)) (λ n. upto total x b z (not_less_back x b e) (f.least z n)) m;
      }

      by : (b : X) → IsFirst c (y ∷ ys) b → IsFirst c (x ∷ y ∷ ys) (cond (is_lt (c b x)) b x)
      by b f = pick b f (is_lt (c b x)) refl

  -- two firsts of two lists are tied where each is a member of the other's list
  pub firsts_tied : (xs ys : List X) (a b : X) → IsFirst c xs a → IsFirst c ys b → Among ys a → Among xs b → c a b ≡ Equal
  firsts_tied xs ys a b f g m n = tied_both a b (f.least b n) (g.least a m)

  pub has_first : (xs : List X) (x : X) → Among xs x → (b : X) × (first_by c xs ≡ Some b) × IsFirst c xs b
  has_first [] x m = absurd m
  has_first (y ∷ ys) x m = (first_of_two c y (first_by c ys), refl, first_by_is y ys)
