-- What holds of the list of every run.
use Rattle.std.specs.Prelude.{◌≡◌, ℕ, ◌≤◌, ⊤, List, length, All, Option, Some, None}
use Rattle.font_stock.specs.declared.font.Font.{Font}
use Rattle.lig_kern.specs.Covering.{most_glyphs}
use Rattle.hlist.specs.Bounds.{IsSubOf}
use Rattle.hlist.specs.declared.item.KernLeft.{KernLeft}
use Rattle.hlist.specs.declared.item.Sub.{Sub}
use Rattle.hlist.specs.declared.item.Sub.TheVariants.{Char, Lig, FontKern}

-- a kern expands with a glyph of a font, where it expands
abbrev pub IsLeftIn : ℕ → Option KernLeft → Type 0
IsLeftIn number None = ⊤
IsLeftIn number (Some left) = left.font ≡ number

-- an entry is in a font
abbrev pub IsSubIn : ℕ → Sub → Type 0
IsSubIn number (Char font code) = font ≡ number
IsSubIn number (Lig font code covers) = font ≡ number
IsSubIn number (FontKern width left) = IsLeftIn number left

-- The entries are in the font of a number, whose codes and kerns they have, and there are not many for so many
-- codes.
pub record IsLawfulList (stock : List Font) (number : ℕ) (codes : List ℕ) (subs : List Sub) : Type 0 where
  pub own : All (IsSubOf stock) subs
  pub in_font : All (IsSubIn number) subs
  pub few : length subs ≤ most_glyphs codes
