-- The glyphs of a line before they have places.
use Rattle.std.specs.Prelude.{◌≡◌, ⊤, ℕ, ◌<◌, ◌≤◌, ◌*◌, ◌^◌, ℤ, unsigned_abs, List}
use Rattle.font_stock.specs.declared.font.Font.{Font}
use Rattle.break_rule.specs.declared.line.Piece.{Piece}
use Rattle.break_rule.specs.declared.line.Piece.TheVariants.{Glyph}
use Rattle.hpack_two.specs.declared.glyphs.Chosen.{Chosen}
use Rattle.hpack_two.specs.Lines.{all_chosen, height_of_line, depth_of_line}
use Rattle.hpack_two.specs.Widths.{natural}

pub record AreChosen (stock : List Font) (ratio : ℤ) (pieces : List Piece) (chosen : Chosen)
    : Type 0 where
  pub glyphs : chosen.glyphs.items ≡ all_chosen stock ratio pieces
  pub natural_is : chosen.natural ≡ natural stock ratio pieces
  pub height : chosen.height ≡ height_of_line stock pieces
  pub depth : chosen.depth ≡ depth_of_line stock pieces
  pub near : unsigned_abs chosen.natural ≤ 131076 * 2 ^ 33

-- a list of so many has room for a piece's glyph
abbrev pub room_for : Piece → ℕ → ℕ → Type 0
room_for (Glyph font code) count capacity = count < capacity
room_for _ count capacity = ⊤
