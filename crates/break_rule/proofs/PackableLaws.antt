-- What a line hands to packing is what packing asks.
--     middle_over, middle_few     the items between two places have fonts of the stock, and are few
--     between_packable            what the ends of a line and the items between them give
use Rattle.std.proofs.Common.{◌≡◌, ℕ, ◌+◌, ◌-◌, ◌<◌, ◌≤◌, ap, sym, ◌∙◌, subst, arith, List, [], ◌∷◌, ◌++◌, length, take, drop}
use Rattle.std.specs.Prelude.{ℤ, ⊤, All, Contains, slice_range, sum_by, Option, Some, None}
use Rattle.std.proofs.lemmas.List.{length-append, length-map, take-append-drop}
use Rattle.std.proofs.lemmas.List.Elements.{All-nil, All-cons, All-head, All-tail, All-append, All-take, All-drop, All-map, All-weaker}
use Rattle.std.proofs.lemmas.List.Sums.{sum_by-cons, sum_by-append, sum_by-take-le}
use Rattle.micro_num.specs.declared.params.Params.{Params}
use Rattle.font_stock.specs.declared.font.Font.{Font}
use Rattle.hlist.specs.declared.item.KernLeft.{KernLeft}
use Rattle.hlist.specs.declared.item.Item.{Item}
use Rattle.hlist.specs.declared.item.Item.TheVariants.{Char, Lig, FontKern, Kern, Glue, Penalty, Disc, Box}
use Rattle.hlist.specs.declared.item.Sub.{Sub}
use Rattle.hlist.specs.declared.item.Sub.TheVariants.{Char as sub_char, Lig as sub_lig, FontKern as sub_kern}
use Rattle.hlist.specs.Bounds.{OfFont, unbroken_count, unbroken_weight}
use Rattle.break_rule.specs.declared.line.Piece.{Piece}
use Rattle.break_rule.specs.declared.line.Piece.TheVariants.{Glyph, Space, Move, FontMove}
use Rattle.break_rule.specs.Lines.{piece_of_kern, moved}
use Rattle.break_rule.specs.Over.{IsOver, IsItemOver, IsSubOver, IsKernOver}
use Rattle.break_rule.specs.Packable.{IsPackable, IsPackablePiece, IsSmallMove}
use Rattle.break_rule.specs.Pieces.{piece_of_sub, pieces_of_subs, pieces_in, pieces_of_items, pieces_between}
use Rattle.break_rule.proofs.PieceLaws.{of_subs}

-- the fonts of a piece, with no word on how far it moves
abbrev IsFontOver : List Font → Piece → Type 0
IsFontOver stock (Glyph font code) = font < length stock
IsFontOver stock (Space glue) = ⊤
IsFontOver stock (Move width) = ⊤
IsFontOver stock (FontMove font code fix width) = OfFont stock font (λ (f : Font). Contains f.tfm.kerns fix)

both : (stock : List Font) (piece : Piece) → IsFontOver stock piece → IsSmallMove piece → IsPackablePiece stock piece
both stock (Glyph font code) over small = over
both stock (Space glue) over small = tt
both stock (Move width) over small = small
both stock (FontMove font code fix width) over small = over

kern-over : (stock : List Font) (width : ℤ) (left : Option KernLeft) → IsKernOver stock left → IsFontOver stock (piece_of_kern width left)
kern-over stock width None over = tt
kern-over stock width (Some left) over = over

sub-over : (stock : List Font) (sub : Sub) → IsSubOver stock sub → IsFontOver stock (piece_of_sub sub)
sub-over stock (sub_char font code) over = over
sub-over stock (sub_lig font code covers) over = over
sub-over stock (sub_kern width left) over = kern-over stock width left over

subs-over : (stock : List Font) (subs : List Sub) → All (IsSubOver stock) subs → All (IsFontOver stock) (pieces_of_subs subs)
subs-over stock subs over =
    All-map (IsFontOver stock) piece_of_sub subs
    (All-weaker (IsSubOver stock) (λ (sub : Sub). IsFontOver stock (piece_of_sub sub)) (sub-over stock) subs over)

one-over : (stock : List Font) (piece : Piece) → IsFontOver stock piece → All (IsFontOver stock) (piece ∷ [])
one-over stock piece over = All-cons (IsFontOver stock) piece [] over (All-nil (IsFontOver stock))

item-over : (stock : List Font) (item : Item) → IsItemOver stock item → All (IsFontOver stock) (pieces_in item)
item-over stock (Char font code) over = one-over stock (Glyph font code) over
item-over stock (Lig font code covers) over = one-over stock (Glyph font code) over
item-over stock (FontKern width left) over = one-over stock (piece_of_kern width left) (kern-over stock width left over)
item-over stock (Kern width) over = one-over stock (Move width) tt
item-over stock (Glue glue) over = one-over stock (Space glue) tt
item-over stock (Penalty value) over = All-nil (IsFontOver stock)
item-over stock (Disc lists) over = subst (All (IsFontOver stock)) (sym (of_subs lists.whole)) (subs-over stock lists.whole over.whole)
item-over stock (Box width) over = one-over stock (Move width) tt

items-over : (stock : List Font) (items : List Item) → IsOver stock items → All (IsFontOver stock) (pieces_of_items items)
items-over stock [] over = All-nil (IsFontOver stock)
items-over stock (item ∷ items) over =
    All-append (IsFontOver stock) (pieces_in item) (pieces_of_items items)
    (item-over stock item (All-head (IsItemOver stock) item items over))
    (items-over stock items (All-tail (IsItemOver stock) item items over))

item-few : (item : Item) → length (pieces_in item) ≤ unbroken_weight item
item-few (Char font code) = omega arith
item-few (Lig font code covers) = omega arith
item-few (FontKern width left) = omega arith
item-few (Kern width) = omega arith
item-few (Glue glue) = omega arith
item-few (Penalty value) = omega arith
item-few (Disc lists) =
    let own : length (pieces_in (Disc lists)) ≡ length lists.whole
    = ap (λ (pieces : List Piece). length pieces) (of_subs lists.whole) ∙ length-map lists.whole piece_of_sub in
    omega (arith, own)
item-few (Box width) = omega arith

items-few : (items : List Item) → length (pieces_of_items items) ≤ unbroken_count items
unfolding unbroken_count
items-few [] = let none : 0 ≤ sum_by unbroken_weight [] = omega arith in none
items-few (item ∷ items) =
    omega (arith, item-few item, items-few items, sum_by-cons unbroken_weight item items, length-append (pieces_in item) (pieces_of_items items))

pub middle_over : (stock : List Font) (items : List Item) (begin to : ℕ) → IsOver stock items → IsOver stock (slice_range items begin to)
middle_over stock items begin to over =
    All-take (IsItemOver stock) (to - begin) (drop begin items) (All-drop (IsItemOver stock) begin items over)

pub middle_few : (items : List Item) (begin to : ℕ) → unbroken_count (slice_range items begin to) ≤ unbroken_count items
unfolding unbroken_count
middle_few items begin to =
    let front = sum_by-take-le unbroken_weight (drop begin items) (to - begin) in
    let parts = sum_by-append unbroken_weight (take begin items) (drop begin items) in
    let whole : sum_by unbroken_weight (take begin items ++ drop begin items) ≡ sum_by unbroken_weight items
    = ap (sum_by unbroken_weight) (take-append-drop begin items) in
    omega (arith, front, parts, whole)

-- the parts of a line within the glue and the moves at its margins
margins-over : (stock : List Font) (a b e f : Piece) (inner : List Piece) → IsFontOver stock a → IsFontOver stock b → IsFontOver stock e
    → IsFontOver stock f → All (IsFontOver stock) inner → All (IsFontOver stock) (a ∷ b ∷ inner ++ e ∷ f ∷ [])
margins-over stock a b e f inner is_a is_b is_e is_f over =
    let P = IsFontOver stock in
    let behind : All P (e ∷ f ∷ []) = All-cons P e (f ∷ []) is_e (one-over stock f is_f) in
    let rest : All P (inner ++ e ∷ f ∷ []) = All-append P inner (e ∷ f ∷ []) over behind in
    All-cons P a (b ∷ inner ++ e ∷ f ∷ []) is_a (All-cons P b (inner ++ e ∷ f ∷ []) is_b rest)

between-over : (params : Params) (stock : List Font) (post pre : List Sub) (middle : List Item) (left right : ℤ)
    → All (IsSubOver stock) post → IsOver stock middle → All (IsSubOver stock) pre
    → All (IsFontOver stock) (pieces_between params post middle pre left right)
unfolding pieces_between
between-over params stock post pre middle left right behind own before =
    margins-over stock (Space params.leftskip) (Move (moved params left)) (Move (moved params right)) (Space params.rightskip) _
    tt tt tt tt
    (All-append (IsFontOver stock) (pieces_of_subs post ++ pieces_of_items middle) (pieces_of_subs pre)
    (All-append (IsFontOver stock) (pieces_of_subs post) (pieces_of_items middle) (subs-over stock post behind) (items-over stock middle own))
    (subs-over stock pre before))

parts-few : (a b e f : Piece) (s m t : List Piece) → length s ≤ 32768 → length m ≤ 65536 → length t ≤ 32768
    → length (a ∷ b ∷ (s ++ m ++ t) ++ e ∷ f ∷ []) ≤ 131076
parts-few a b e f s m t behind own before =
    let first : length (s ++ m) ≡ length s + length m = length-append s m in
    let inner : length (s ++ m ++ t) ≡ length (s ++ m) + length t = length-append (s ++ m) t in
    let all : length ((s ++ m ++ t) ++ e ∷ f ∷ []) ≡ length (s ++ m ++ t) + 2 = length-append (s ++ m ++ t) (e ∷ f ∷ []) in
    omega (arith, behind, own, before, first, inner, all)

between-few : (params : Params) (post pre : List Sub) (middle : List Item) (left right : ℤ)
    → length post ≤ 32768 → unbroken_count middle ≤ 65536 → length pre ≤ 32768
    → length (pieces_between params post middle pre left right) ≤ 131076
unfolding pieces_between
between-few params post pre middle left right behind own before =
    parts-few (Space params.leftskip) (Move (moved params left)) (Move (moved params right)) (Space params.rightskip)
    (pieces_of_subs post) (pieces_of_items middle) (pieces_of_subs pre)
    (subs-few post behind) (omega (arith, items-few middle, own)) (subs-few pre before)
  where
    subs-few : (subs : List Sub) → length subs ≤ 32768 → length (pieces_of_subs subs) ≤ 32768
    subs-few subs few = omega (arith, few, length-map subs piece_of_sub)

pub between_packable : (params : Params) (stock : List Font) (post pre : List Sub) (middle : List Item) (left right : ℤ) (pieces : List Piece)
    → pieces ≡ pieces_between params post middle pre left right → All IsSmallMove pieces
    → All (IsSubOver stock) post → length post ≤ 32768 → IsOver stock middle → unbroken_count middle ≤ 65536
    → All (IsSubOver stock) pre → length pre ≤ 32768 → IsPackable stock pieces
between_packable params stock post pre middle left right pieces is small behind post_short own few before pre_short =
    let over : All (IsFontOver stock) pieces
    = subst (All (IsFontOver stock)) (sym is) (between-over params stock post pre middle left right behind own before) in
    let long = between-few params post pre middle left right post_short few pre_short in
    let same : length pieces ≡ length (pieces_between params post middle pre left right) = ap (λ (own : List Piece). length own) is in
    record {
      few = omega (arith, long, same);
      each = λ k d within. both stock _ (over k d within) (small k d within);
    }
