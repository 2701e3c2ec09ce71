-- What a line is made of, what it measures, and how far it hangs into the margins (TeX: The Program, sections 838 to 842;
-- Thành, Micro-typographic extensions to the TeX typesetting system; pdfTeX manual, `\pdfprotrudechars`).
--     post_of, pre_of         what a broken discretionary puts at the beginning and at the end of a line
--     line_items              the items of a line, each unbroken discretionary replaced by its whole list
--     measure_sums            what a line measures: a difference of sums, also where it begins past its end
--     measure_of              the same as it is handed out
--     left_hang, right_hang   how far the characters at its margins hang out
--     line_pieces             what is handed to packing
use Rattle.std.specs.Prelude.{ℕ, ℤ, pos, neg_ℤ, int_lt, not, Bool, true, false, List, [], ◌∷◌, ◌++◌, map, reverse, take, find, flat_map, slice_get, slice_index_or, slice_range, Option, Some, None, option_map, unwrap_or, if◌then◌else◌}
use Rattle.std.specs.Ordering.{int_eq}
use Rattle.micro_num.specs.declared.params.Params.{Params}
use Rattle.font_stock.specs.declared.font.Font.{Font}
use Rattle.font_stock.specs.Fonts.{hang_at}
use Rattle.hlist.specs.declared.item.KernLeft.{KernLeft}
use Rattle.hlist.specs.declared.item.Item.{Item}
use Rattle.hlist.specs.declared.item.Item.TheVariants.{Char, Lig, FontKern, Kern, Glue, Penalty, Disc, Box}
use Rattle.hlist.specs.declared.item.Sub.{Sub}
use Rattle.hlist.specs.declared.item.Sub.TheVariants.{Char as sub_char, Lig as sub_lig, FontKern as sub_kern}
use Rattle.break_rule.specs.declared.line.From.{From}
use Rattle.break_rule.specs.declared.line.From.TheVariants.{Start, After}
use Rattle.break_rule.specs.declared.line.Measure.{Measure}
use Rattle.break_rule.specs.declared.line.Piece.{Piece}
use Rattle.break_rule.specs.declared.line.Piece.TheVariants.{Glyph, Space, Move, FontMove}
use Rattle.break_rule.specs.declared.margin.Side.{Side}
use Rattle.break_rule.specs.declared.margin.Side.TheVariants.{Left, Right}
use Rattle.break_rule.specs.declared.sums.Sums.{Sums}
use Rattle.break_rule.specs.Adding.{plus, minus, added, added_subs}
use Rattle.break_rule.specs.Places.{begin_of}

abbrev pub pre_at : Option Item → List Sub
pre_at (Some (Disc lists)) = lists.pre
pre_at _ = []

abbrev pub post_at : Option Item → List Sub
post_at (Some (Disc lists)) = lists.post
post_at _ = []

-- what stands before a break at a place
unfoldable pub pre_of : List Item → ℕ → List Sub
pre_of items to = pre_at (slice_get items to)

-- what stands behind the break that a line begins with
unfoldable pub post_of : List Item → From → List Sub
post_of items Start = []
post_of items (After at) = post_at (slice_get items at)

-- added anew over all items before either end
unfoldable pub measure_sums : List Font → List Item → From → ℕ → Sums
measure_sums stock items from to =
    plus
    (plus (minus (added stock (take to items)) (added stock (take (begin_of items from) items))) (added_subs stock (pre_of items to)))
    (added_subs stock (post_of items from))

abbrev pub as_measure : Sums → Measure
as_measure sums = record {
  width = sums.width;
  stretch = sums.finite ∷ sums.fil ∷ sums.fill ∷ sums.filll ∷ [];
  shrink = sums.shrink;
  font_stretch = sums.font_stretch;
  font_shrink = sums.font_shrink;
}

unfoldable pub measure_of : List Font → List Item → From → ℕ → Measure
measure_of stock items from to = as_measure (measure_sums stock items from to)

-- an entry of a discretionary as an item
abbrev pub as_item : Sub → Item
as_item (sub_char font code) = Char font code
as_item (sub_lig font code covers) = Lig font code covers
as_item (sub_kern width left) = FontKern width left

abbrev pub unbroken : Item → List Item
unbroken (Disc lists) = map as_item lists.whole
unbroken item = item ∷ []

-- none of the list's where the line begins past its end
abbrev pub middle_items : List Item → ℕ → ℕ → List Item
middle_items items begin to = flat_map unbroken (slice_range items begin to)

unfoldable pub line_items : List Item → From → ℕ → List Item
line_items items from to =
    map as_item (post_of items from) ++ middle_items items (begin_of items from) to ++ map as_item (pre_of items to)

-- whether the search for a character at a margin passes an item
abbrev pub is_passed : Item → Bool
is_passed (Penalty value) = true
is_passed (FontKern width left) = true
is_passed (Kern width) = int_eq width (pos 0)
is_passed (Box width) = int_eq width (pos 0)
is_passed _ = false

abbrev pub stops : Item → Bool
stops item = not (is_passed item)

-- the thousandths of the quad by which a font's characters hang out at a side
abbrev pub hangs_at : Side → Font → List ℤ
hangs_at Left font = font.codes.left
hangs_at Right font = font.codes.right

abbrev pub hang_in : Side → ℕ → Font → ℤ
hang_in side code font = hang_at font.tfm font.size (slice_index_or (hangs_at side font) code (pos 0))

unfoldable pub hang_of_glyph : Side → List Font → ℕ → ℕ → ℤ
hang_of_glyph side stock font code = unwrap_or (option_map (hang_in side code) (slice_get stock font)) (pos 0)

-- an item that stops the search hangs where it is a character or ligature
abbrev pub hang_of : Side → List Font → Item → ℤ
hang_of side stock (Char font code) = hang_of_glyph side stock font code
hang_of side stock (Lig font code covers) = hang_of_glyph side stock font code
hang_of side stock _ = pos 0

-- the hang of the first item that stops the search, where there is one
unfoldable pub margin : Side → List Font → List Item → Option ℤ
margin side stock items = option_map (hang_of side stock) (find stops items)

unfoldable pub left_hang : List Font → List Item → From → ℕ → ℤ
left_hang stock items from to = unwrap_or (margin Left stock (line_items items from to)) (pos 0)

unfoldable pub right_hang : List Font → List Item → From → ℕ → ℤ
right_hang stock items from to = unwrap_or (margin Right stock (reverse (line_items items from to))) (pos 0)

abbrev pub piece_of_kern : ℤ → Option KernLeft → Piece
piece_of_kern width None = Move width
piece_of_kern width (Some left) = FontMove left.font left.code left.fix width

-- what an item gives to packing; penalties give nothing
abbrev pub pieces_of : Item → List Piece
pieces_of (Char font code) = Glyph font code ∷ []
pieces_of (Lig font code covers) = Glyph font code ∷ []
pieces_of (FontKern width left) = piece_of_kern width left ∷ []
pieces_of (Kern width) = Move width ∷ []
pieces_of (Glue glue) = Space glue ∷ []
pieces_of (Penalty value) = []
pieces_of (Disc lists) = []
pieces_of (Box width) = Move width ∷ []

-- the margins are moved by the hangs where characters may protrude at all
abbrev pub moved : Params → ℤ → ℤ
moved params hang = if int_lt (pos 0) params.pdfprotrudechars then neg_ℤ hang else pos 0

unfoldable pub line_pieces : Params → List Font → List Item → From → ℕ → List Piece
line_pieces params stock items from to =
    Space params.leftskip ∷ Move (moved params (left_hang stock items from to))
    ∷ flat_map pieces_of (line_items items from to)
    ++ Move (moved params (right_hang stock items from to)) ∷ Space params.rightskip ∷ []
