-- The pieces of a line, from what stands on it.
--     of_subs, of_items       what entries of a discretionary and items give
--     chained                 the whole, put together part by part
--     of_line, of_kept        the whole is what the line hands to packing
use Rattle.std.proofs.Common.{◌≡◌, ℕ, refl, ap, sym, ◌∙◌, append_assoc, List, [], ◌∷◌, ◌++◌, map}
use Rattle.std.specs.Prelude.{ℤ, flat_map, slice_range}
use Rattle.std.proofs.lemmas.Grind.{flat_map-append}
use Rattle.micro_num.specs.declared.params.Params.{Params}
use Rattle.font_stock.specs.declared.font.Font.{Font}
use Rattle.hlist.specs.declared.item.Item.{Item}
use Rattle.hlist.specs.declared.item.Sub.{Sub}
use Rattle.hlist.specs.declared.item.Sub.TheVariants.{Char as sub_char, Lig as sub_lig, FontKern as sub_kern}
use Rattle.break_rule.specs.declared.line.Piece.{Piece}
use Rattle.break_rule.specs.declared.line.From.{From}
use Rattle.break_rule.specs.declared.line.Piece.TheVariants.{Glyph, Space, Move}
use Rattle.break_rule.specs.Lines.{pieces_of, piece_of_kern, unbroken, as_item, moved, pre_of, post_of}
use Rattle.break_rule.specs.Lines.{line_items, line_pieces, left_hang, right_hang}
use Rattle.break_rule.specs.Pieces.{pieces_of_subs, pieces_in, pieces_of_items, pieces_between}
use Rattle.break_rule.specs.Places.{begin_of}

pub of_subs : (subs : List Sub) → flat_map pieces_of (map as_item subs) ≡ pieces_of_subs subs
of_subs [] = refl
of_subs (sub_char font code ∷ subs) = ap (λ (rest : List Piece). Glyph font code ∷ rest) (of_subs subs)
of_subs (sub_lig font code covers ∷ subs) = ap (λ (rest : List Piece). Glyph font code ∷ rest) (of_subs subs)
of_subs (sub_kern width left ∷ subs) = ap (λ (rest : List Piece). piece_of_kern width left ∷ rest) (of_subs subs)

pub of_items : (items : List Item) → flat_map pieces_of (flat_map unbroken items) ≡ pieces_of_items items
of_items [] = refl
of_items (item ∷ items) =
    flat_map-append pieces_of (unbroken item) (flat_map unbroken items) ∙ ap (λ (rest : List Piece). pieces_in item ++ rest) (of_items items)

pub chained : (a b e f : Piece) (s m t p0 p1 p2 p3 p4 p5 p6 p7 : List Piece)
    → p0 ≡ [] → p1 ≡ p0 ++ a ∷ [] → p2 ≡ p1 ++ b ∷ [] → p3 ≡ p2 ++ s → p4 ≡ p3 ++ m → p5 ≡ p4 ++ t
    → p6 ≡ p5 ++ e ∷ [] → p7 ≡ p6 ++ f ∷ [] → p7 ≡ a ∷ b ∷ (s ++ m ++ t) ++ e ∷ f ∷ []
chained a b e f s m t p0 p1 p2 p3 p4 p5 p6 p7 h0 h1 h2 h3 h4 h5 h6 h7 =
    h7
    ∙ ap (λ (p : List Piece). p ++ f ∷ []) (h6
    ∙ ap (λ (p : List Piece). p ++ e ∷ []) (h5
    ∙ ap (λ (p : List Piece). p ++ t) (h4
    ∙ ap (λ (p : List Piece). p ++ m) (h3
    ∙ ap (λ (p : List Piece). p ++ s) (h2
    ∙ ap (λ (p : List Piece). p ++ b ∷ []) (h1 ∙ ap (λ (p : List Piece). p ++ a ∷ []) h0))))))
    ∙ ap (λ (rest : List Piece). a ∷ b ∷ rest) (regrouped s m t)
  where
    regrouped : (s m t : List Piece) → ((((s ++ m) ++ t) ++ e ∷ []) ++ f ∷ []) ≡ (s ++ m ++ t) ++ e ∷ f ∷ []
    regrouped s m t = simp append_assoc

parts-apart : (first second third : List Item)
    → flat_map pieces_of (first ++ second ++ third)
    ≡ flat_map pieces_of first ++ flat_map pieces_of second ++ flat_map pieces_of third
parts-apart first second third =
    flat_map-append pieces_of (first ++ second) third
    ∙ ap (λ (front : List Piece). front ++ flat_map pieces_of third)
    (flat_map-append pieces_of first second)

pub of_parts : (post pre : List Sub) (middle : List Item)
    → flat_map pieces_of (map as_item post ++ flat_map unbroken middle ++ map as_item pre)
    ≡ pieces_of_subs post ++ pieces_of_items middle ++ pieces_of_subs pre
of_parts post pre middle =
    let apart = parts-apart (map as_item post) (flat_map unbroken middle) (map as_item pre) in
    rw (← of_subs post, ← of_subs pre, ← of_items middle) apart

around : Params → ℤ → ℤ → List Piece → List Piece
around params left right inner =
    Space params.leftskip ∷ Move (moved params left)
    ∷ inner ++ Move (moved params right) ∷ Space params.rightskip ∷ []

pub of_line : (params : Params) (stock : List Font) (items : List Item) (from : From) (to : ℕ)
    → pieces_between params (post_of items from) (slice_range items (begin_of items from) to)
    (pre_of items to) (left_hang stock items from to) (right_hang stock items from to)
    ≡ line_pieces params stock items from to
unfolding around pieces_between line_pieces line_items
of_line params stock items from to =
    ap (around params (left_hang stock items from to) (right_hang stock items from to))
    (sym (of_parts (post_of items from) (pre_of items to)
    (slice_range items (begin_of items from) to)))

-- also where the parameters and the items are held under other names
pub of_kept : (held params : Params) (stock : List Font) (own items : List Item) (from : From)
    (begin to : ℕ) (post pre : List Sub) (middle : List Item) (left right : ℤ) (pieces : List Piece)
    → held ≡ params → own ≡ items → pieces ≡ pieces_between held post middle pre left right
    → post ≡ post_of own from → middle ≡ slice_range own begin to → begin ≡ begin_of items from
    → pre ≡ pre_of own to → left ≡ left_hang stock items from to
    → right ≡ right_hang stock items from to → pieces ≡ line_pieces params stock items from to
of_kept held params stock own items from begin to post pre middle left right pieces h o is p m b q l r =
    let same : pieces_between held post middle pre left right
    ≡ pieces_between params (post_of items from) (slice_range items (begin_of items from) to)
    (pre_of items to) (left_hang stock items from to) (right_hang stock items from to) = cc in
    is ∙ same ∙ of_line params stock items from to
