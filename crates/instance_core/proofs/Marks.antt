-- The elements of a list that are marked, when one more is marked; and the cells asked of a source.
use Rattle.std.proofs.Common.{◌≡◌, ℕ, zero, suc, ◌<◌, ◌≤◌, refl, ap, sym, ◌∙◌, arith, Bool, true, false, cond, ◌||◌, List, [], ◌∷◌, length, map, take, get_or, set, replicate, pos, Some, inl, inr, length-set, get_or-set_same, get_or-set_other}
use Rattle.std.specs.List.{filter, count_by, insert, items_where_true, All}
use Rattle.std.specs.List.{slice_get}
use Rattle.std.proofs.lemmas.Option.{slice_get_within, get_or_from_slice_get}
use Rattle.std.proofs.lemmas.Bool.{cases_eq}
use Rattle.std.proofs.lemmas.List.Sums.{sum_by-cons}
use Rattle.std.proofs.lemmas.List.{length-map, get_or-map, same_lists, set-get_or, get_or_default}
use Rattle.instance_core.specs.declared.cell.Cell.{Cell}
use Rattle.instance_core.specs.declared.font.BaseFont.{BaseFont}
use Rattle.instance_core.specs.Bases.{IsBase}
use Rattle.instance_core.specs.Cells.{cells_of, same_cell, number_of, has_cell, in_cell_order}
use Rattle.instance_core.proofs.CellNumbers.{number_of-each, same_cell-is, same_cell-self}

-- a filter marks what it passes
pub filter_marked : {X : Type 0} (p : X → Bool) (xs : List X) → filter p xs ≡ items_where_true (map p xs) xs
filter_marked p [] = refl
filter_marked p (x ∷ xs) = first (p x) (filter_marked p xs)
  where
    first : (b : Bool) → filter p xs ≡ items_where_true (map p xs) xs
        → cond b (x ∷ filter p xs) (filter p xs) ≡ items_where_true (b ∷ map p xs) (x ∷ xs)
    first true rest = ap (λ ys. x ∷ ys) rest
    first false rest = rest

abbrev pub marked : List Bool → ℕ
marked ms = count_by (λ m. m) ms

marked-true : (ms : List Bool) → marked (true ∷ ms) ≡ suc (marked ms)
marked-true ms = sum_by-cons (λ m. cond m 1 0) true ms ∙ omega arith

marked-false : (ms : List Bool) → marked (false ∷ ms) ≡ marked ms
marked-false ms = sum_by-cons (λ m. cond m 1 0) false ms ∙ omega arith

-- one more mark puts its element behind those marked before it
pub items_where_true-set : {X : Type 0} (ms : List Bool) (xs : List X) (n : ℕ) (d : X) → length ms ≡ length xs → n < length xs
    → get_or ms n false ≡ false
    → items_where_true (set ms n true) xs ≡ insert (items_where_true ms xs) (marked (take n ms)) (get_or xs n d)
items_where_true-set [] [] n d same below unmarked = absurd (omega arith)
items_where_true-set [] (x ∷ xs) n d same below unmarked = absurd (omega arith)
items_where_true-set (m ∷ ms) [] n d same below unmarked = absurd (omega arith)
items_where_true-set (true ∷ ms) (x ∷ xs) zero d same below unmarked = absurd (cc)
items_where_true-set (false ∷ ms) (x ∷ xs) zero d same below unmarked = refl
items_where_true-set (true ∷ ms) (x ∷ xs) (suc n) d same below unmarked =
    ap (λ ys. x ∷ ys) (items_where_true-set ms xs n d (omega arith) (omega arith) unmarked)
    ∙ ap (λ k. insert (x ∷ items_where_true ms xs) k (get_or xs n d)) (sym (marked-true (take n ms)))
items_where_true-set (false ∷ ms) (x ∷ xs) (suc n) d same below unmarked =
    items_where_true-set ms xs n d (omega arith) (omega arith) unmarked
    ∙ ap (λ k. insert (items_where_true ms xs) k (get_or xs n d)) (sym (marked-false (take n ms)))

-- how many are marked
pub items_where_true-all : {X : Type 0} (ms : List Bool) (xs : List X) → length (items_where_true ms xs) ≤ length xs
items_where_true-all [] xs = omega arith
items_where_true-all (m ∷ ms) [] = omega arith
items_where_true-all (true ∷ ms) (x ∷ xs) = let rest = items_where_true-all ms xs in omega (arith, rest)
items_where_true-all (false ∷ ms) (x ∷ xs) = let rest = items_where_true-all ms xs in omega (arith, rest)

pub items_where_true-some : {X : Type 0} (ms : List Bool) (xs : List X) (n : ℕ) → length ms ≡ length xs → n < length xs
    → get_or ms n false ≡ false → length (items_where_true ms xs) < length xs
items_where_true-some [] [] n same below unmarked = absurd (omega arith)
items_where_true-some [] (x ∷ xs) n same below unmarked = absurd (omega arith)
items_where_true-some (m ∷ ms) [] n same below unmarked = absurd (omega arith)
items_where_true-some (true ∷ ms) (x ∷ xs) zero same below unmarked = absurd (cc)
items_where_true-some (false ∷ ms) (x ∷ xs) zero same below unmarked =
    let rest = items_where_true-all ms xs in omega (arith, rest)
items_where_true-some (true ∷ ms) (x ∷ xs) (suc n) same below unmarked =
    let rest = items_where_true-some ms xs n (omega arith) (omega arith) unmarked in omega (arith, rest)
items_where_true-some (false ∷ ms) (x ∷ xs) (suc n) same below unmarked =
    let rest = items_where_true-some ms xs n (omega arith) (omega arith) unmarked in omega (arith, rest)

pub marked-before : {X : Type 0} (ms : List Bool) (xs : List X) (n : ℕ) → length ms ≡ length xs
    → marked (take n ms) ≤ length (items_where_true ms xs)
marked-before ms xs zero same = omega arith
marked-before [] xs (suc n) same = omega arith
marked-before (m ∷ ms) [] (suc n) same = absurd (omega arith)
marked-before (true ∷ ms) (x ∷ xs) (suc n) same =
    let rest = marked-before ms xs n (omega arith) in omega (arith, rest, marked-true (take n ms))
marked-before (false ∷ ms) (x ∷ xs) (suc n) same =
    let rest = marked-before ms xs n (omega arith) in omega (arith, rest, marked-false (take n ms))

-- a cell is among those that pass a test exactly where it is among all and passes
has_cell-cond : (b : Bool) (x : Cell) (xs : List Cell) (c : Cell)
    → has_cell (cond b (x ∷ xs) xs) c ≡ cond b (same_cell c x || has_cell xs c) (has_cell xs c)
has_cell-cond true x xs c = refl
has_cell-cond false x xs c = refl

has_cell-fails : (p : Cell → Bool) (xs : List Cell) (c : Cell) → p c ≡ false → has_cell (filter p xs) c ≡ false
has_cell-fails p [] c fails = refl
has_cell-fails p (x ∷ xs) c fails =
    has_cell-cond (p x) x (filter p xs) c
    ∙ none (p x) (same_cell c x) (has_cell (filter p xs) c)
    (λ same. sym (ap p (same_cell-is c x same)) ∙ fails) (has_cell-fails p xs c fails)
  where
    none : (b s rest : Bool) → (s ≡ true → b ≡ false) → rest ≡ false → cond b (s || rest) rest ≡ false
    none true true rest same is = let never : true ≡ false = same refl in absurd (cc)
    none true false rest same is = is
    none false s rest same is = is

has_cell-passes : (p : Cell → Bool) (xs : List Cell) (c : Cell) → p c ≡ true → has_cell xs c ≡ true → has_cell (filter p xs) c ≡ true
has_cell-passes p [] c passes inside = inside
has_cell-passes p (x ∷ xs) c passes inside =
    has_cell-cond (p x) x (filter p xs) c
    ∙ some (p x) (same_cell c x) (has_cell xs c) (has_cell (filter p xs) c)
    (λ same. sym (ap p (same_cell-is c x same)) ∙ passes) inside (has_cell-passes p xs c passes)
  where
    some : (b s all rest : Bool) → (s ≡ true → b ≡ true) → s || all ≡ true → (all ≡ true → rest ≡ true)
        → cond b (s || rest) rest ≡ true
    some true true all rest same inside later = refl
    some true false all rest same inside later = later inside
    some false true all rest same inside later = let never : false ≡ true = same refl in absurd (cc)
    some false false all rest same inside later = later inside

pub has_cell-filter : (p : Cell → Bool) (xs : List Cell) (c : Cell) → has_cell xs c ≡ true → has_cell (filter p xs) c ≡ p c
has_cell-filter p xs c inside = by_test (p c) refl
  where
    by_test : (b : Bool) → p c ≡ b → has_cell (filter p xs) c ≡ p c
    by_test true passes = has_cell-passes p xs c passes inside ∙ sym passes
    by_test false fails = has_cell-fails p xs c fails ∙ sym fails

has_cell-each : (xs : List Cell) (k : ℕ) (d : Cell) → k < length xs → has_cell xs (get_or xs k d) ≡ true
has_cell-each [] k d inside = absurd (omega arith)
has_cell-each (x ∷ xs) zero d inside = ap (λ b. b || has_cell xs x) (same_cell-self x)
has_cell-each (x ∷ xs) (suc k) d inside =
    later (same_cell (get_or xs k d) x) (has_cell-each xs k d (omega arith))
  where
    later : (b : Bool) → has_cell xs (get_or xs k d) ≡ true → b || has_cell xs (get_or xs k d) ≡ true
    later true rest = refl
    later false rest = rest

-- the marks of a list's part that passes a test are those of the test
marks-filter : (p : Cell → Bool) (xs : List Cell) → map (has_cell (filter p xs)) xs ≡ map p xs
marks-filter p xs =
    same_lists (map (has_cell (filter p xs)) xs) (map p xs)
    (length-map xs (has_cell (filter p xs)) ∙ sym (length-map xs p))
    (λ k d below.
    let inside : k < length xs = rw length-map at below in
    get_or-map (has_cell (filter p xs)) xs k none d inside
    ∙ has_cell-filter p xs (get_or xs k none) (has_cell-each xs k none inside)
    ∙ sym (get_or-map p xs k none d inside))
  where
    none : Cell
    none = record { font = 0; step = pos 0 }

-- cells in their order are so in their order again
pub in_cell_order-again : (fs : List BaseFont) (cells : List Cell) → in_cell_order fs (in_cell_order fs cells) ≡ in_cell_order fs cells
in_cell_order-again fs cells =
    filter_marked (has_cell (in_cell_order fs cells)) (cells_of fs)
    ∙ ap (λ ms. items_where_true ms (cells_of fs)) (marks-filter (has_cell cells) (cells_of fs))
    ∙ sym (filter_marked (has_cell cells) (cells_of fs))

-- the marks of one cell more
marks-cons : (fs : List BaseFont) (cells : List Cell) (n : ℕ) (c : Cell) → All IsBase fs → n < length (cells_of fs)
    → get_or (cells_of fs) n c ≡ c
    → map (has_cell (c ∷ cells)) (cells_of fs) ≡ set (map (has_cell cells) (cells_of fs)) n true
marks-cons fs cells n c bases inside here =
    same_lists _ _ (length-map (cells_of fs) (has_cell (c ∷ cells)) ∙ sym (length-set (map (has_cell cells) (cells_of fs)) n true ∙ length-map (cells_of fs) (has_cell cells)))
    (λ k d below.
    let within : k < length (cells_of fs) = rw length-map at below in
    get_or-map (has_cell (c ∷ cells)) (cells_of fs) k c d within
    ∙ elim (cases_eq k n) [
      | inl same ↦
          ap (λ b. b || has_cell cells (get_or (cells_of fs) k c)) (ap (λ i. same_cell (get_or (cells_of fs) i c) c) same ∙ ap (λ x. same_cell x c) here ∙ same_cell-self c)
          ∙ sym (ap (λ i. get_or (set (map (has_cell cells) (cells_of fs)) n true) i d) same
          ∙ get_or-set_same (map (has_cell cells) (cells_of fs)) n true d (rw length-map inside))
      | inr other ↦
          ap (λ b. b || has_cell cells (get_or (cells_of fs) k c)) (apart k within other (same_cell (get_or (cells_of fs) k c) c) refl)
          ∙ sym (get_or-set_other (map (has_cell cells) (cells_of fs)) n k true d other ∙ get_or-map (has_cell cells) (cells_of fs) k c d within)
    ])
  where
    same_some : {a b : ℕ} → Some a ≡ Some b → a ≡ b
    same_some same = cc

    apart : (k : ℕ) → k < length (cells_of fs) → (k ≡ n → ⊥) → (b : Bool) → same_cell (get_or (cells_of fs) k c) c ≡ b → same_cell (get_or (cells_of fs) k c) c ≡ false
    apart k within other false is = is
    apart k within other true is =
        let cell : get_or (cells_of fs) k c ≡ c = same_cell-is (get_or (cells_of fs) k c) c is in
        let number = sym (number_of-each fs k c bases within) ∙ ap (number_of fs) (cell ∙ sym here) ∙ number_of-each fs n c bases inside in
        absurd (other (same_some number))

-- a cell that wasn't asked before is put behind those before it in cell order
pub in_cell_order-new : (fs : List BaseFont) (cells : List Cell) (n : ℕ) (c : Cell) → All IsBase fs → n < length (cells_of fs)
    → get_or (cells_of fs) n c ≡ c → cells ≡ in_cell_order fs cells → get_or (map (has_cell cells) (cells_of fs)) n false ≡ false
    → in_cell_order fs (c ∷ cells) ≡ insert cells (marked (take n (map (has_cell cells) (cells_of fs)))) c
in_cell_order-new fs cells n c bases inside here ordered unmarked =
    filter_marked (has_cell (c ∷ cells)) (cells_of fs)
    ∙ ap (λ ms. items_where_true ms (cells_of fs)) (marks-cons fs cells n c bases inside here)
    ∙ items_where_true-set (map (has_cell cells) (cells_of fs)) (cells_of fs) n c (length-map (cells_of fs) (has_cell cells)) inside unmarked
    ∙ ap (λ xs. insert xs (marked (take n (map (has_cell cells) (cells_of fs)))) (get_or (cells_of fs) n c))
    (sym (filter_marked (has_cell cells) (cells_of fs)) ∙ sym ordered)
    ∙ ap (λ x. insert cells (marked (take n (map (has_cell cells) (cells_of fs)))) x) here

-- and the marks of the new list
pub marks-new : (fs : List BaseFont) (cells news : List Cell) (n : ℕ) (c : Cell) → All IsBase fs → n < length (cells_of fs)
    → get_or (cells_of fs) n c ≡ c → news ≡ in_cell_order fs (c ∷ cells)
    → set (map (has_cell cells) (cells_of fs)) n true ≡ map (has_cell news) (cells_of fs)
marks-new fs cells news n c bases inside here is =
    sym (marks-cons fs cells n c bases inside here)
    ∙ sym (ap (λ xs. map (has_cell xs) (cells_of fs)) is ∙ marks-filter (has_cell (c ∷ cells)) (cells_of fs))

-- a cell that was asked before changes nothing
pub in_cell_order-old : (fs : List BaseFont) (cells : List Cell) (n : ℕ) (c : Cell) → All IsBase fs → n < length (cells_of fs)
    → get_or (cells_of fs) n c ≡ c → cells ≡ in_cell_order fs cells → get_or (map (has_cell cells) (cells_of fs)) n false ≡ true
    → in_cell_order fs (c ∷ cells) ≡ cells
in_cell_order-old fs cells n c bases inside here ordered was =
    filter_marked (has_cell (c ∷ cells)) (cells_of fs)
    ∙ ap (λ ms. items_where_true ms (cells_of fs))
    (marks-cons fs cells n c bases inside here
    ∙ ap (λ b. set (map (has_cell cells) (cells_of fs)) n b) (sym was)
    ∙ set-get_or (map (has_cell cells) (cells_of fs)) n false)
    ∙ sym (filter_marked (has_cell cells) (cells_of fs)) ∙ sym ordered

-- there is room for a new one
pub asked-fewer : (fs : List BaseFont) (cells : List Cell) (n : ℕ) → n < length (cells_of fs) → cells ≡ in_cell_order fs cells
    → get_or (map (has_cell cells) (cells_of fs)) n false ≡ false → length cells < length (cells_of fs)
asked-fewer fs cells n inside ordered unmarked =
    let fewer = items_where_true-some (map (has_cell cells) (cells_of fs)) (cells_of fs) n (length-map (cells_of fs) (has_cell cells)) inside unmarked in
    let size : length cells ≡ length (items_where_true (map (has_cell cells) (cells_of fs)) (cells_of fs)) =
    ap length (ordered ∙ filter_marked (has_cell cells) (cells_of fs)) in
    omega (arith, size, fewer)

pub asked-before : (fs : List BaseFont) (cells : List Cell) (n : ℕ) → cells ≡ in_cell_order fs cells
    → marked (take n (map (has_cell cells) (cells_of fs))) ≤ length cells
asked-before fs cells n ordered =
    let before = marked-before (map (has_cell cells) (cells_of fs)) (cells_of fs) n (length-map (cells_of fs) (has_cell cells)) in
    let size : length cells ≡ length (items_where_true (map (has_cell cells) (cells_of fs)) (cells_of fs)) =
    ap length (ordered ∙ filter_marked (has_cell cells) (cells_of fs)) in
    omega (arith, size, before)

-- where none was asked
filter-nothing : (xs : List Cell) → filter (has_cell []) xs ≡ []
filter-nothing [] = refl
filter-nothing (x ∷ xs) = filter-nothing xs

pub in_cell_order-none : (fs : List BaseFont) → in_cell_order fs [] ≡ []
in_cell_order-none fs = filter-nothing (cells_of fs)

pub marks-none : (xs : List Cell) → replicate (length xs) false ≡ map (has_cell []) xs
marks-none [] = refl
marks-none (x ∷ xs) = ap (λ ms. false ∷ ms) (marks-none xs)

-- what a source keeps: a mark for each cell, of those asked, which it lists in cell order
pub record Keeps (fs : List BaseFont) (asked : List Bool) (cells : List Cell) : Type 0 where
  pub marks : asked ≡ map (has_cell cells) (cells_of fs)
  pub order : cells ≡ in_cell_order fs cells

pub record IsAt (fs : List BaseFont) (n : ℕ) (c : Cell) : Type 0 where
  pub bases : All IsBase fs
  pub inside : n < length (cells_of fs)
  pub here : get_or (cells_of fs) n c ≡ c

pub is_at : (fs : List BaseFont) (n : ℕ) (c : Cell) → All IsBase fs → slice_get (cells_of fs) n ≡ Some c → IsAt fs n c
is_at fs n c bases found = record {
  bases = bases;
  inside = slice_get_within (cells_of fs) n c found;
  here = get_or_from_slice_get (cells_of fs) n c c found;
}

unmarked : (fs : List BaseFont) (asked : List Bool) (cells : List Cell) (n : ℕ) (m : Bool) → Keeps fs asked cells → get_or asked n false ≡ m
    → get_or (map (has_cell cells) (cells_of fs)) n false ≡ m
unmarked fs asked cells n m keeps is = ap (λ ms. get_or ms n false) (sym keeps.marks) ∙ is

pub touched-new : (fs : List BaseFont) (asked : List Bool) (cells : List Cell) (n : ℕ) (c : Cell) → Keeps fs asked cells → IsAt fs n c
    → get_or asked n false ≡ false → insert cells (marked (take n asked)) c ≡ in_cell_order fs (c ∷ cells)
touched-new fs asked cells n c keeps at new =
    ap (λ ms. insert cells (marked (take n ms)) c) keeps.marks
    ∙ sym (in_cell_order-new fs cells n c at.bases at.inside at.here keeps.order (unmarked fs asked cells n false keeps new))

pub Keeps-new : (fs : List BaseFont) (asked : List Bool) (cells : List Cell) (n : ℕ) (c : Cell) → Keeps fs asked cells → IsAt fs n c
    → get_or asked n false ≡ false → Keeps fs (set asked n true) (insert cells (marked (take n asked)) c)
Keeps-new fs asked cells n c keeps at new = record {
  marks = ap (λ ms. set ms n true) keeps.marks ∙ marks-new fs cells _ n c at.bases at.inside at.here (touched-new fs asked cells n c keeps at new);
  order =
      touched-new fs asked cells n c keeps at new ∙ sym (in_cell_order-again fs (c ∷ cells))
      ∙ ap (in_cell_order fs) (sym (touched-new fs asked cells n c keeps at new));
}

pub touched-old : (fs : List BaseFont) (asked : List Bool) (cells : List Cell) (n : ℕ) (c : Cell) → Keeps fs asked cells → IsAt fs n c
    → get_or asked n false ≡ true → cells ≡ in_cell_order fs (c ∷ cells)
touched-old fs asked cells n c keeps at was =
    sym (in_cell_order-old fs cells n c at.bases at.inside at.here keeps.order (unmarked fs asked cells n true keeps was))

pub room-new : (fs : List BaseFont) (asked : List Bool) (cells : List Cell) (n : ℕ) (c : Cell) → Keeps fs asked cells → IsAt fs n c
    → get_or asked n false ≡ false → length cells < length (cells_of fs)
room-new fs asked cells n c keeps at new = asked-fewer fs cells n at.inside keeps.order (unmarked fs asked cells n false keeps new)

pub place-new : (fs : List BaseFont) (asked : List Bool) (cells : List Cell) (n : ℕ) → Keeps fs asked cells → marked (take n asked) ≤ length cells
place-new fs asked cells n keeps =
    let before = asked-before fs cells n keeps.order in
    let same : marked (take n asked) ≡ marked (take n (map (has_cell cells) (cells_of fs))) = ap (λ ms. marked (take n ms)) keeps.marks in
    omega (arith, same, before)

-- a mark that was read with another default
pub was_marked : (fs : List BaseFont) (asked : List Bool) (cells : List Cell) (n : ℕ) (c : Cell) → Keeps fs asked cells → IsAt fs n c
    → get_or asked n true ≡ true → get_or asked n false ≡ true
was_marked fs asked cells n c keeps at was =
    let size : length asked ≡ length (cells_of fs) = ap length keeps.marks ∙ length-map (cells_of fs) (has_cell cells) in
    get_or_default asked n false true (omega (arith, size, at.inside)) ∙ was
