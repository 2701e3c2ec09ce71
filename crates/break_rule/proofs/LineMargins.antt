-- The hangs of a line, from what its two ends keep.
--     left_of_ends            the hang at the left
--     right_of_ends           and at the right
use Rattle.std.proofs.Common.{◌≡◌, ℕ, zero, suc, ◌+◌, ◌-◌, ◌≤◌, refl, ap, sym, ◌∙◌, arith, List, ◌∷◌, [], ◌++◌, map, take, drop, length, reverse}
use Rattle.std.specs.Prelude.{ℤ, pos, flat_map, Option, Some, None, unwrap_or}
use Rattle.std.specs.Option.{option_or}
use Rattle.std.proofs.lemmas.List.{reverse-append, drop-take, take-append-drop, append-nil, length-reverse, length-drop, length-take-le}
use Rattle.std.proofs.Math.Seq.{take-append_seam}
use Rattle.std.proofs.lemmas.Grind.{flat_map-append}
use Rattle.micro_num.specs.declared.params.Params.{Params}
use Rattle.font_stock.specs.declared.font.Font.{Font}
use Rattle.hlist.specs.declared.item.Item.{Item}
use Rattle.break_rule.specs.declared.line.From.{From}
use Rattle.break_rule.specs.declared.margin.Side.{Side}
use Rattle.break_rule.specs.declared.margin.Side.TheVariants.{Left, Right}
use Rattle.break_rule.specs.declared.margin.Stop.{Stop}
use Rattle.break_rule.specs.Places.{begin_of}
use Rattle.break_rule.specs.Lines.{margin, unbroken, as_item, line_items, middle_items, pre_of, post_of, left_hang, right_hang}
use Rattle.break_rule.specs.Margins.{subs_margin, item_margin}
use Rattle.break_rule.specs.Kept.{stop_at, ahead_in, ahead_of, behind_in, behind_of, opening_of, opening_with, closing_of}
use Rattle.break_rule.specs.Between.{stop_before, stop_behind, left_between, right_between}
use Rattle.break_rule.proofs.MarginLaws.{margin-append, item-margin}

nothing-at : (side : Side) (stock : List Font) → margin side stock [] ≡ None
unfolding margin
nothing-at side stock = refl

-- the stop from a place on isn't before it
ahead-from : (stock : List Font) (place : ℕ) (items : List Item) → place ≤ (ahead_in stock place items).at
unfolding ahead_in
ahead-from stock place [] = omega arith
ahead-from stock place (item ∷ items) = by (item_margin Left stock item) (ahead-from stock (place + 1) items)
  where
    by : (hang : Option ℤ) → place + 1 ≤ (ahead_in stock (place + 1) items).at → place ≤ (stop_at place hang (ahead_in stock (place + 1) items)).at
    by (Some hang) later = omega arith
    by None later = omega (arith, later)

not-before : (place : ℕ) (stop : Stop) → place ≤ stop.at → None ≡ stop_before place stop
not-before place stop later = grind (arith, later)

-- the stop among the first so many of them
ahead-within : (stock : List Font) (place : ℕ) (items : List Item) (m : ℕ) → m ≤ length items
    → margin Left stock (flat_map unbroken (take m items)) ≡ stop_before (place + m) (ahead_in stock place items)
unfolding ahead_in
ahead-within stock place items zero fits = nothing-at Left stock ∙ not-before (place + 0) (ahead_in stock place items) (omega (arith, ahead-from stock place items))
ahead-within stock place [] (suc m) fits = grind (arith, fits)
ahead-within stock place (item ∷ items) (suc m) fits =
    margin-append Left stock (unbroken item) (flat_map unbroken (take m items))
    ∙ ap (λ (first : Option ℤ). option_or first (margin Left stock (flat_map unbroken (take m items)))) (item-margin Left stock item)
    ∙ by (item_margin Left stock item) (ahead-within stock (place + 1) items m (omega (arith, fits)))
  where
    by : (hang : Option ℤ)
        → margin Left stock (flat_map unbroken (take m items)) ≡ stop_before (place + 1 + m) (ahead_in stock (place + 1) items)
        → option_or hang (margin Left stock (flat_map unbroken (take m items)))
        ≡ stop_before (place + suc m) (stop_at place hang (ahead_in stock (place + 1) items))
    by (Some hang) rest = grind arith
    by None rest =
        rest
        ∙ ap (λ (end : ℕ). stop_before end (ahead_in stock (place + 1) items)) (omega arith)

-- the stop backwards isn't past the place
behind-to : (stock : List Font) (items : List Item) → (behind_in stock items).at ≤ length items
unfolding behind_in
behind-to stock [] = omega arith
behind-to stock (item ∷ items) = by (item_margin Right stock item) (behind-to stock items)
  where
    by : (hang : Option ℤ) → (behind_in stock items).at ≤ length items → (stop_at (length items + 1) hang (behind_in stock items)).at ≤ suc (length items)
    by (Some hang) sooner = omega arith
    by None sooner = omega (arith, sooner)

not-behind : (place : ℕ) (stop : Stop) → stop.at ≤ place → None ≡ stop_behind place stop
not-behind place stop sooner = grind (arith, sooner)

abbrev back : Item → List Item
back item = reverse (unbroken item)

-- the stop among the last so many items before a place, the last first
behind-within : (stock : List Font) (items : List Item) (m : ℕ) → m ≤ length items
    → margin Right stock (flat_map back (take m items)) ≡ stop_behind (length items - m) (behind_in stock items)
unfolding behind_in
behind-within stock items zero fits = nothing-at Right stock ∙ not-behind (length items - 0) (behind_in stock items) (omega (arith, behind-to stock items))
behind-within stock [] (suc m) fits = grind (arith, fits)
behind-within stock (item ∷ items) (suc m) fits =
    margin-append Right stock (back item) (flat_map back (take m items))
    ∙ ap (λ (first : Option ℤ). option_or first (margin Right stock (flat_map back (take m items)))) (item-margin Right stock item)
    ∙ by (item_margin Right stock item) (behind-within stock items m (omega (arith, fits)))
  where
    by : (hang : Option ℤ)
        → margin Right stock (flat_map back (take m items)) ≡ stop_behind (length items - m) (behind_in stock items)
        → option_or hang (margin Right stock (flat_map back (take m items)))
        ≡ stop_behind (suc (length items) - suc m) (stop_at (length items + 1) hang (behind_in stock items))
    by (Some hang) rest = grind arith
    by None rest = rest ∙ ap (λ (end : ℕ). stop_behind end (behind_in stock items)) (omega (arith, fits))

reverse-flat_map : (items : List Item) → reverse (flat_map unbroken items) ≡ flat_map back (reverse items)
reverse-flat_map [] = refl
reverse-flat_map (item ∷ items) =
    reverse-append (unbroken item) (flat_map unbroken items)
    ∙ ap (λ (front : List Item). front ++ back item) (reverse-flat_map items)
    ∙ ap (λ (last : List Item). flat_map back (reverse items) ++ last) (single item)
    ∙ sym (flat_map-append back (reverse items) (item ∷ []))
    ∙ ap (flat_map back) (sym (reverse-append (item ∷ []) items))
  where
    single : (item : Item) → back item ≡ flat_map back (item ∷ [])
    single item = simp append-nil

-- the stop among a line's own items, from the left
middle-left : (stock : List Font) (items : List Item) (begin to : ℕ) → to ≤ length items
    → margin Left stock (middle_items items begin to) ≡ stop_before to (ahead_of stock items begin)
middle-left stock items begin to fits = by (to - begin) refl
  where
    by : (m : ℕ) → to - begin ≡ m
        → margin Left stock (flat_map unbroken (take m (drop begin items))) ≡ stop_before to (ahead_of stock items begin)
    by zero is =
        nothing-at Left stock
        ∙ not-before to (ahead_of stock items begin) (omega (arith, is, ahead-from stock begin (drop begin items)))
    by (suc m) is =
        ahead-within stock begin (drop begin items) (suc m) (omega (arith, is, fits, length-drop begin items))
        ∙ ap (λ (end : ℕ). stop_before end (ahead_of stock items begin)) (omega (arith, is))

-- the last so many items before a place, the last first
last-items : (items : List Item) (begin m : ℕ) → begin + m ≤ length items
    → reverse (take m (drop begin items)) ≡ take m (reverse (take (begin + m) items))
last-items items begin m fits =
    let front = take (begin + m) items in
    let whole : reverse front ≡ reverse (drop begin front) ++ reverse (take begin front)
    = ap reverse (sym (take-append-drop begin front)) ∙ reverse-append (take begin front) (drop begin front) in
    let count : length (reverse (drop begin front)) ≡ m
    = length-reverse (drop begin front) ∙ ap length (drop-take begin m items)
    ∙ length-take-le m (drop begin items) (omega (arith, fits, length-drop begin items)) in
    ap reverse (sym (drop-take begin m items))
    ∙ sym (take-append_seam (reverse (drop begin front)) (reverse (take begin front)))
    ∙ ap (λ (n : ℕ). take n (reverse (drop begin front) ++ reverse (take begin front))) count
    ∙ ap (take m) (sym whole)

-- and from the right
middle-right : (stock : List Font) (items : List Item) (begin to : ℕ) → to ≤ length items
    → margin Right stock (reverse (middle_items items begin to)) ≡ stop_behind begin (behind_of stock items to)
middle-right stock items begin to fits =
    ap (margin Right stock) (reverse-flat_map (take (to - begin) (drop begin items))) ∙ by (to - begin) refl
  where
    count : length (reverse (take to items)) ≡ to
    count = length-reverse (take to items) ∙ length-take-le to items fits

    by : (m : ℕ) → to - begin ≡ m
        → margin Right stock (flat_map back (reverse (take m (drop begin items)))) ≡ stop_behind begin (behind_of stock items to)
    by zero is =
        nothing-at Right stock
        ∙ not-behind begin (behind_of stock items to) (omega (arith, is, count, behind-to stock (reverse (take to items))))
    by (suc m) is =
        let end : begin + suc m ≡ to = omega (arith, is) in
        ap (λ (seen : List Item). margin Right stock (flat_map back seen)) (last-items items begin (suc m) (omega (arith, end, fits)))
        ∙ ap (λ (n : ℕ). margin Right stock (flat_map back (take (suc m) (reverse (take n items))))) end
        ∙ behind-within stock (reverse (take to items)) (suc m) (omega (arith, count, end))
        ∙ ap (λ (place : ℕ). stop_behind place (behind_of stock items to)) (omega (arith, count, end))

or-assoc : {X : Type 0} (a b c : Option X) → option_or (option_or a b) c ≡ option_or a (option_or b c)
or-assoc None b c = refl
or-assoc (Some x) b c = refl

pub left_of_ends : (params : Params) (stock : List Font) (items : List Item) (from : From) (to : ℕ) → to ≤ length items
    → left_between (opening_of stock items from) (closing_of params stock items to) to ≡ left_hang stock items from to
unfolding left_between left_hang opening_of opening_with closing_of line_items subs_margin
left_of_ends params stock items from to fits =
    let post = map as_item (post_of items from) in
    let middle = middle_items items (begin_of items from) to in
    let pre = map as_item (pre_of items to) in
    ap (λ (hang : Option ℤ). unwrap_or hang (pos 0)) (sym (
    margin-append Left stock (post ++ middle) pre
    ∙ ap (λ (front : Option ℤ). option_or front (margin Left stock pre)) (margin-append Left stock post middle)
    ∙ or-assoc (margin Left stock post) (margin Left stock middle) (margin Left stock pre)
    ∙ ap (λ (own : Option ℤ). option_or (margin Left stock post) (option_or own (margin Left stock pre))) (middle-left stock items (begin_of items from) to fits)))

pub right_of_ends : (params : Params) (stock : List Font) (items : List Item) (from : From) (to : ℕ) → to ≤ length items
    → right_between (opening_of stock items from) (closing_of params stock items to) ≡ right_hang stock items from to
unfolding right_between right_hang opening_of opening_with closing_of line_items subs_margin
right_of_ends params stock items from to fits =
    let post = map as_item (post_of items from) in
    let middle = middle_items items (begin_of items from) to in
    let pre = map as_item (pre_of items to) in
    ap (λ (hang : Option ℤ). unwrap_or hang (pos 0)) (sym (
    ap (margin Right stock) (reverse-append (post ++ middle) pre ∙ ap (λ (rest : List Item). reverse pre ++ rest) (reverse-append post middle))
    ∙ margin-append Right stock (reverse pre) (reverse middle ++ reverse post)
    ∙ ap (option_or (margin Right stock (reverse pre))) (margin-append Right stock (reverse middle) (reverse post))
    ∙ ap (λ (own : Option ℤ). option_or (margin Right stock (reverse pre)) (option_or own (margin Right stock (reverse post))))
    (middle-right stock items (begin_of items from) to fits)))
