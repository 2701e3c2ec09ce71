-- Cells put in one after another are the first uses of the list.
use Rattle.std.proofs.Common.{◌≡◌, ℕ, ◌+◌, ◌<◌, refl, ap, sym, ◌∙◌, Bool, true, false, cond, not, ◌&&◌, ◌||◌, List, [], ◌∷◌, ◌++◌, append_assoc, length, drop, get_or}
use Rattle.std.specs.List.{filter}
use Rattle.std.proofs.lemmas.List.{drop_more, append-nil}
use Rattle.indexmap.specs.IndexSet.{insert_key, insert_all}
use Rattle.instance_core.specs.declared.cell.Cell.{Cell}
use Rattle.instance_core.specs.declared.page.PageLine.{PageLine}
use Rattle.instance_core.specs.declared.page.Page.{Page}
use Rattle.instance_core.specs.Cells.{same_cell, has_cell}
use Rattle.instance_core.proofs.CellNumbers.{same_cell-is}
use Rattle.renumber.specs.Uses.{cells_of_line, cells_of_lines, cells_of_pages, first_uses}

pub insert_all-append : (ks xs ys : List Cell) → insert_all same_cell ks (xs ++ ys) ≡ insert_all same_cell (insert_all same_cell ks xs) ys
insert_all-append ks [] ys = refl
insert_all-append ks (x ∷ xs) ys = insert_all-append (insert_key same_cell ks x) xs ys

-- a line more, and a page more
pub lines_more : (ks : List Cell) (lines : List PageLine) (i : ℕ) (d : PageLine) → i < length lines
    → insert_all same_cell ks (cells_of_lines (drop i lines))
    ≡ insert_all same_cell (insert_all same_cell ks (cells_of_line (get_or lines i d).line)) (cells_of_lines (drop (i + 1) lines))
lines_more ks lines i d inside =
    ap (λ rest. insert_all same_cell ks (cells_of_lines rest)) (drop_more lines i d inside)
    ∙ insert_all-append ks (cells_of_line (get_or lines i d).line) (cells_of_lines (drop (i + 1) lines))

pub pages_more : (ks : List Cell) (pages : List Page) (i : ℕ) (d : Page) → i < length pages
    → insert_all same_cell ks (cells_of_pages (drop i pages))
    ≡ insert_all same_cell (insert_all same_cell ks (cells_of_lines (get_or pages i d).lines)) (cells_of_pages (drop (i + 1) pages))
pages_more ks pages i d inside =
    ap (λ rest. insert_all same_cell ks (cells_of_pages rest)) (drop_more pages i d inside)
    ∙ insert_all-append ks (cells_of_lines (get_or pages i d).lines) (cells_of_pages (drop (i + 1) pages))

-- two filters after one another
filter-cond : {X : Type 0} (p : X → Bool) (b : Bool) (x : X) (ys : List X)
    → filter p (cond b (x ∷ ys) ys) ≡ cond (b && p x) (x ∷ filter p ys) (filter p ys)
filter-cond p true x ys = refl
filter-cond p false x ys = refl

pub filter-both : {X : Type 0} (p q r : X → Bool) → ((x : X) → q x && p x ≡ r x) → (xs : List X) → filter p (filter q xs) ≡ filter r xs
filter-both p q r same [] = refl
filter-both p q r same (x ∷ xs) =
    filter-cond p (q x) x (filter q xs)
    ∙ ap (λ b. cond b (x ∷ filter p (filter q xs)) (filter p (filter q xs))) (same x)
    ∙ ap (λ ys. cond (r x) (x ∷ ys) ys) (filter-both p q r same xs)

pub has_cell-append : (xs ys : List Cell) (c : Cell) → has_cell (xs ++ ys) c ≡ has_cell xs c || has_cell ys c
has_cell-append [] ys c = refl
has_cell-append (x ∷ xs) ys c = ap (λ b. same_cell c x || b) (has_cell-append xs ys c) ∙ or_assoc (same_cell c x) (has_cell xs c) (has_cell ys c)
  where
    or_assoc : (a b d : Bool) → a || (b || d) ≡ (a || b) || d
    or_assoc true b d = refl
    or_assoc false b d = refl

-- the cells that are new after ks
abbrev pub news : List Cell → List Cell → List Cell
news ks cells = filter (λ d. not (has_cell ks d)) cells

-- a cell that ks has is no news
news-known : (ks cells : List Cell) (c : Cell) → has_cell ks c ≡ true → news ks (filter (λ d. not (same_cell d c)) cells) ≡ news ks cells
news-known ks cells c known =
    filter-both (λ d. not (has_cell ks d)) (λ d. not (same_cell d c)) (λ d. not (has_cell ks d))
    (λ d. by_test (same_cell d c) (has_cell ks d) (λ same. ap (has_cell ks) (same_cell-is d c same) ∙ known)) cells
  where
    by_test : (s h : Bool) → (s ≡ true → h ≡ true) → not s && not h ≡ not h
    by_test true true all = refl
    by_test true false all = let never : false ≡ true = all refl in absurd (cc)
    by_test false h all = refl

news-push : (ks cells : List Cell) (c : Cell) → news ks (filter (λ d. not (same_cell d c)) cells) ≡ news (ks ++ c ∷ []) cells
news-push ks cells c =
    filter-both (λ d. not (has_cell ks d)) (λ d. not (same_cell d c)) (λ d. not (has_cell (ks ++ c ∷ []) d))
    (λ d. by_test (same_cell d c) (has_cell ks d) ∙ sym (ap not (has_cell-append ks (c ∷ []) d))) cells
  where
    by_test : (s h : Bool) → not s && not h ≡ not (h || (s || false))
    by_test true true = refl
    by_test true false = refl
    by_test false true = refl
    by_test false false = refl

pub insert_all-is : (cells ks : List Cell) → insert_all same_cell ks cells ≡ ks ++ news ks (first_uses cells)
unfolding first_uses
insert_all-is [] ks = sym (append-nil ks)
insert_all-is (c ∷ cs) ks =
    by_test (has_cell ks c) refl (insert_all-is cs ks) (insert_all-is cs (ks ++ c ∷ []))
  where
    by_test : (b : Bool) → has_cell ks c ≡ b → insert_all same_cell ks cs ≡ ks ++ news ks (first_uses cs)
        → insert_all same_cell (ks ++ c ∷ []) cs ≡ (ks ++ c ∷ []) ++ news (ks ++ c ∷ []) (first_uses cs)
        → insert_all same_cell (cond b ks (ks ++ c ∷ [])) cs
        ≡ ks ++ cond (not b) (c ∷ news ks (filter (λ d. not (same_cell d c)) (first_uses cs))) (news ks (filter (λ d. not (same_cell d c)) (first_uses cs)))
    by_test true known old new = old ∙ ap (λ ys. ks ++ ys) (sym (news-known ks (first_uses cs) c known))
    by_test false unknown old new =
        new ∙ append_assoc ks (c ∷ []) (news (ks ++ c ∷ []) (first_uses cs))
        ∙ ap (λ ys. ks ++ c ∷ ys) (sym (news-push ks (first_uses cs) c))

-- from nothing on, all is news
news-all : (cells : List Cell) → news [] cells ≡ cells
news-all [] = refl
news-all (c ∷ cs) = ap (λ ys. c ∷ ys) (news-all cs)

pub insert_all-first_uses : (cells : List Cell) → insert_all same_cell [] cells ≡ first_uses cells
insert_all-first_uses cells = insert_all-is cells [] ∙ news-all (first_uses cells)

-- the first uses of two lists are those of the first, and the news of the second
pub first_uses-append : (xs ys : List Cell) → first_uses (xs ++ ys) ≡ first_uses xs ++ news (first_uses xs) (first_uses ys)
first_uses-append xs ys =
    sym (insert_all-first_uses (xs ++ ys)) ∙ insert_all-append [] xs ys
    ∙ ap (λ ks. insert_all same_cell ks ys) (insert_all-first_uses xs) ∙ insert_all-is ys (first_uses xs)
