-- Lists that are gone through piece by piece.
--     flat_map-next     what one more element gives
--     length-chosen     a line has as many glyphs as pieces that are glyphs
--     glyphs-before     before a glyph there is room for it
use Rattle.std.proofs.Common.{◌≡◌, ℕ, zero, suc, ◌+◌, ◌<◌, refl, ap, sym, ◌∙◌, arith, cond, List, [], ◌∷◌, ◌++◌, append_assoc, append-nil, length, length-append, take, Some, ℤ}
use Rattle.std.specs.Prelude.{fold, flat_map, slice_get, count_by}
use Rattle.font_stock.specs.declared.font.Font.{Font}
use Rattle.break_rule.specs.declared.line.Piece.{Piece}
use Rattle.break_rule.specs.declared.line.Piece.TheVariants.{Glyph, Space, Move, FontMove}
use Rattle.hpack_two.specs.Lines.{chosen_of, all_chosen, is_glyph}
use Rattle.hpack_two.proofs.Fonts.{some-is}

pub flat_map-next : {X Y : Type 0} (f : X → List Y) (xs : List X) (i : ℕ) (x : X) → slice_get xs i ≡ Some x
    → flat_map f (take (suc i) xs) ≡ flat_map f (take i xs) ++ f x
flat_map-next f [] i x is = absurd (cc)
flat_map-next f (y ∷ ys) zero x is = append-nil (f y) ∙ ap f (some-is y x is)
flat_map-next f (y ∷ ys) (suc i) x is =
    ap (λ rest. f y ++ rest) (flat_map-next f ys i x is) ∙ sym (append_assoc (f y) (flat_map f (take i ys)) (f x))

count-from : (n : ℕ) (pieces : List Piece) → fold (λ (a : ℕ) (x : Piece). a + cond (is_glyph x) 1 0) n pieces ≡ n + count_by is_glyph pieces
count-from n [] = omega arith
count-from n (piece ∷ pieces) =
    let own : ℕ = cond (is_glyph piece) 1 0 in
    let moved : n + own + count_by is_glyph pieces ≡ n + (0 + own + count_by is_glyph pieces) = omega arith in
    count-from (n + own) pieces ∙ moved ∙ ap (λ (m : ℕ). n + m) (sym (count-from (0 + own) pieces))

count-cons : (piece : Piece) (pieces : List Piece) → count_by is_glyph (piece ∷ pieces) ≡ cond (is_glyph piece) 1 0 + count_by is_glyph pieces
count-cons piece pieces =
    let own : ℕ = cond (is_glyph piece) 1 0 in
    let same : 0 + own + count_by is_glyph pieces ≡ own + count_by is_glyph pieces = omega arith in
    count-from (0 + own) pieces ∙ same

length-of_piece : (stock : List Font) (ratio : ℤ) (piece : Piece) (pieces : List Piece)
    → length (chosen_of stock ratio piece) + count_by is_glyph pieces ≡ count_by is_glyph (piece ∷ pieces)
length-of_piece stock ratio (Glyph font code) pieces = sym (count-cons (Glyph font code) pieces)
length-of_piece stock ratio (Space glue) pieces = sym (count-cons (Space glue) pieces)
length-of_piece stock ratio (Move width) pieces = sym (count-cons (Move width) pieces)
length-of_piece stock ratio (FontMove font code fix width) pieces = sym (count-cons (FontMove font code fix width) pieces)

pub length-chosen : (stock : List Font) (ratio : ℤ) (pieces : List Piece) → length (all_chosen stock ratio pieces) ≡ count_by is_glyph pieces
unfolding all_chosen
length-chosen stock ratio [] = refl
length-chosen stock ratio (piece ∷ pieces) =
    length-append (chosen_of stock ratio piece) (flat_map (chosen_of stock ratio) pieces)
    ∙ ap (λ n. length (chosen_of stock ratio piece) + n) (length-chosen stock ratio pieces)
    ∙ length-of_piece stock ratio piece pieces

pub glyphs-before : (pieces : List Piece) (i font code : ℕ) → slice_get pieces i ≡ Some (Glyph font code)
    → count_by is_glyph (take i pieces) < count_by is_glyph pieces
glyphs-before [] i font code is = absurd (cc)
glyphs-before (piece ∷ pieces) zero font code is =
    let same : piece ≡ Glyph font code = some-is piece (Glyph font code) is in
    let more : count_by is_glyph (piece ∷ pieces) ≡ 1 + count_by is_glyph pieces
    = count-cons piece pieces ∙ ap (λ (x : Piece). cond (is_glyph x) 1 0 + count_by is_glyph pieces) same in
    let none : count_by is_glyph (take 0 (piece ∷ pieces)) ≡ 0 = refl in
    omega (arith, more, none)
glyphs-before (piece ∷ pieces) (suc i) font code is =
    let here : count_by is_glyph (take (suc i) (piece ∷ pieces)) ≡ cond (is_glyph piece) 1 0 + count_by is_glyph (take i pieces) = count-cons piece (take i pieces) in
    let all = count-cons piece pieces in
    omega (arith, here, all, glyphs-before pieces i font code is)
