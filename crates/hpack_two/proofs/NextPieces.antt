-- What pieces add up to, piece by piece.
--     added-next       what one more piece adds
--     natural-next     the natural width of one more piece
--     given-next       what the glue of one more piece counts for
use Rattle.std.proofs.Common.{◌≡◌, ℕ, suc, ◌+◌, ap, ◌∙◌, arith, List, take, Some, ℤ, pos, ◌+ℤ◌}
use Rattle.std.specs.Prelude.{slice_get}
use Rattle.font_stock.specs.declared.font.Font.{Font}
use Rattle.break_rule.specs.declared.line.Piece.{Piece}
use Rattle.break_rule.specs.Adding.{plus, nothing}
use Rattle.break_rule.proofs.Totals.{fold-step}
use Rattle.hpack_two.specs.declared.glue.GlueSet.{GlueSet}
use Rattle.hpack_two.specs.Glue.{given, given_of, with_given}
use Rattle.hpack_two.specs.Widths.{added, sums_of_piece, with_piece, natural, natural_of, with_natural}
use Rattle.hpack_two.specs.Lines.{chosen_of, all_chosen, higher, deeper, height_of_line, depth_of_line}
use Rattle.std.proofs.Common.{◌++◌}
use Rattle.hpack_two.proofs.Lists.{flat_map-next}

one : (i : ℕ) → i + 1 ≡ suc i
one i = omega arith

pub added-next : (stock : List Font) (pieces : List Piece) (i : ℕ) (piece : Piece) → slice_get pieces i ≡ Some piece
    → added stock (take (i + 1) pieces) ≡ plus (added stock (take i pieces)) (sums_of_piece stock piece)
unfolding added
added-next stock pieces i piece is =
    ap (λ (n : ℕ). added stock (take n pieces)) (one i) ∙ fold-step (with_piece stock) nothing pieces i piece is

pub natural-next : (stock : List Font) (ratio : ℤ) (pieces : List Piece) (i : ℕ) (piece : Piece) → slice_get pieces i ≡ Some piece
    → natural stock ratio (take (i + 1) pieces) ≡ natural stock ratio (take i pieces) +ℤ natural_of stock ratio piece
unfolding natural
natural-next stock ratio pieces i piece is =
    ap (λ (n : ℕ). natural stock ratio (take n pieces)) (one i) ∙ fold-step (with_natural stock ratio) (pos 0) pieces i piece is

pub given-next : (set : GlueSet) (pieces : List Piece) (i : ℕ) (piece : Piece) → slice_get pieces i ≡ Some piece
    → given set (take (i + 1) pieces) ≡ given set (take i pieces) +ℤ given_of set piece
unfolding given
given-next set pieces i piece is =
    ap (λ (n : ℕ). given set (take n pieces)) (one i) ∙ fold-step (with_given set) (pos 0) pieces i piece is

pub chosen-next : (stock : List Font) (ratio : ℤ) (pieces : List Piece) (i : ℕ) (piece : Piece) → slice_get pieces i ≡ Some piece
    → all_chosen stock ratio (take (i + 1) pieces) ≡ all_chosen stock ratio (take i pieces) ++ chosen_of stock ratio piece
unfolding all_chosen
chosen-next stock ratio pieces i piece is =
    ap (λ (n : ℕ). all_chosen stock ratio (take n pieces)) (one i) ∙ flat_map-next (chosen_of stock ratio) pieces i piece is

pub height-next : (stock : List Font) (pieces : List Piece) (i : ℕ) (piece : Piece) → slice_get pieces i ≡ Some piece
    → height_of_line stock (take (i + 1) pieces) ≡ higher stock (height_of_line stock (take i pieces)) piece
unfolding height_of_line
height-next stock pieces i piece is =
    ap (λ (n : ℕ). height_of_line stock (take n pieces)) (one i) ∙ fold-step (higher stock) (pos 0) pieces i piece is

pub depth-next : (stock : List Font) (pieces : List Piece) (i : ℕ) (piece : Piece) → slice_get pieces i ≡ Some piece
    → depth_of_line stock (take (i + 1) pieces) ≡ deeper stock (depth_of_line stock (take i pieces)) piece
unfolding depth_of_line
depth-next stock pieces i piece is =
    ap (λ (n : ℕ). depth_of_line stock (take n pieces)) (one i) ∙ fold-step (deeper stock) (pos 0) pieces i piece is
