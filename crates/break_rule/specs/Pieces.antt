-- What a line hands to packing, from what stands on it.
use Rattle.std.specs.Prelude.{ℤ, List, [], ◌∷◌, ◌++◌, map, flat_map}
use Rattle.micro_num.specs.declared.params.Params.{Params}
use Rattle.hlist.specs.declared.item.Item.{Item}
use Rattle.hlist.specs.declared.item.Sub.{Sub}
use Rattle.hlist.specs.declared.item.Sub.TheVariants.{Char as sub_char, Lig as sub_lig, FontKern as sub_kern}
use Rattle.break_rule.specs.declared.line.Piece.{Piece}
use Rattle.break_rule.specs.declared.line.Piece.TheVariants.{Glyph, Space, Move}
use Rattle.break_rule.specs.Lines.{pieces_of, piece_of_kern, unbroken, moved}

abbrev pub piece_of_sub : Sub → Piece
piece_of_sub (sub_char font code) = Glyph font code
piece_of_sub (sub_lig font code covers) = Glyph font code
piece_of_sub (sub_kern width left) = piece_of_kern width left

abbrev pub pieces_of_subs : List Sub → List Piece
pieces_of_subs subs = map piece_of_sub subs

abbrev pub pieces_in : Item → List Piece
pieces_in item = flat_map pieces_of (unbroken item)

abbrev pub pieces_of_items : List Item → List Piece
pieces_of_items items = flat_map pieces_in items

unfoldable pub pieces_between : Params → List Sub → List Item → List Sub → ℤ → ℤ → List Piece
pieces_between params post middle pre left right =
    Space params.leftskip ∷ Move (moved params left)
    ∷ (pieces_of_subs post ++ pieces_of_items middle ++ pieces_of_subs pre)
    ++ Move (moved params right) ∷ Space params.rightskip ∷ []
