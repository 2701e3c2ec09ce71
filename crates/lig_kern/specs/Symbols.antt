-- The symbols of a run: the code that a program finds one by, and the glyph that it gives.
use Rattle.std.specs.Prelude.{ℕ, List, Option, Some, None, filter_map}
use Rattle.lig_kern.specs.declared.glyph.Glyph.{Glyph}
use Rattle.lig_kern.specs.declared.glyph.Glyph.TheVariants.{Char, Lig, Kern}
use Rattle.lig_kern.specs.declared.symbols.SymbolKind.{SymbolKind}
use Rattle.lig_kern.specs.declared.symbols.SymbolKind.TheVariants.{LeftBoundary, RightBoundary, Character, Ligature, FontKern}
use Rattle.lig_kern.specs.declared.symbols.Symbol.{Symbol}

-- the code that a program finds a symbol by
abbrev pub code_of : SymbolKind → Option ℕ
code_of LeftBoundary = None
code_of (RightBoundary code) = Some code
code_of (Character code) = Some code
code_of (Ligature code) = Some code
code_of (FontKern fix) = None

-- the glyph of a symbol that covers the codes from `from` to before `to`: a boundary gives none
abbrev pub glyph_at : SymbolKind → ℕ → ℕ → Option Glyph
glyph_at LeftBoundary from to = None
glyph_at (RightBoundary code) from to = None
glyph_at (Character code) from to = Some (Char code from)
glyph_at (Ligature code) from to = Some (Lig code from to)
glyph_at (FontKern fix) from to = Some (Kern fix)

abbrev pub glyph_of : Symbol → Option Glyph
glyph_of symbol = glyph_at symbol.kind symbol.from symbol.to

-- the glyphs of a list of symbols
abbrev pub glyphs_of : List Symbol → List Glyph
glyphs_of symbols = filter_map glyph_of symbols
