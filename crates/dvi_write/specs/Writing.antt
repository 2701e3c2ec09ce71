-- The bytes of a file as they are written: with what the file has said of fonts so far. They are those of the
-- commands of the document.
use Rattle.std.specs.Prelude.{ℕ, ◌+◌, max, List, [], ◌∷◌, ◌++◌, length, if◌then◌else◌, nat_lt, replicate, Option, Some, None, ℤ, pos, ◌+ℤ◌, ◌-ℤ◌}
use Rattle.instance_core.specs.declared.cell.Cell.{Cell}
use Rattle.instance_core.specs.declared.page.Placed.{Placed}
use Rattle.instance_core.specs.declared.page.PageLine.{PageLine}
use Rattle.instance_core.specs.declared.page.Page.{Page}
use Rattle.renumber.specs.Uses.{cells_of_line, cells_of_lines}
use Rattle.dvi_write.specs.declared.row.FontRow.{FontRow}
use Rattle.dvi_write.specs.declared.fonts.Fonts.{Fonts}
use Rattle.dvi_write.specs.Commands.{spell, spell_all}
use Rattle.dvi_write.specs.Commands.Command.{Bop, Eop, Push, Pop, Post, PostPost}
use Rattle.dvi_write.specs.Document.{right, down, define, select, set_code, number_at, is_selected, start, definitions_from, summary_of, filling}

-- the fonts are defined in the order of their numbers, so one is defined where its number is below the count
unfoldable pub font_bytes : List FontRow → List Cell → Fonts → Cell → List ℕ
font_bytes rows cells fonts cell =
    if is_selected fonts.selected cell then []
    else ((if nat_lt (number_at cells cell) fonts.defined then [] else spell (define rows (number_at cells cell) cell)) ++ spell (select (number_at cells cell)))

unfoldable pub font_after : List Cell → Fonts → Cell → Fonts
font_after cells fonts cell =
    if is_selected fonts.selected cell then fonts
    else (record { defined = max fonts.defined (number_at cells cell + 1); selected = Some cell })

abbrev pub fonts_after : List Cell → Fonts → List Cell → Fonts
fonts_after cells fonts [] = fonts
fonts_after cells fonts (c ∷ cs) = fonts_after cells (font_after cells fonts c) cs

unfoldable pub glyph_bytes : List FontRow → List Cell → Fonts → ℤ → Placed → List ℕ
glyph_bytes rows cells fonts h glyph = spell_all (right (glyph.x -ℤ h)) ++ font_bytes rows cells fonts glyph.cell ++ spell (set_code glyph.code)

abbrev pub glyphs_bytes : List FontRow → List Cell → Fonts → ℤ → List Placed → List ℕ
glyphs_bytes rows cells fonts h [] = []
glyphs_bytes rows cells fonts h (g ∷ gs) =
    glyph_bytes rows cells fonts h g ++ glyphs_bytes rows cells (font_after cells fonts g.cell) (g.x +ℤ g.advance) gs

unfoldable pub line_bytes : List FontRow → List Cell → Fonts → ℤ → PageLine → List ℕ
line_bytes rows cells fonts v placed =
    spell_all (down (placed.baseline -ℤ v)) ++ spell Push ++ glyphs_bytes rows cells fonts (pos 0) placed.line.glyphs ++ spell Pop

abbrev pub lines_bytes : List FontRow → List Cell → Fonts → ℤ → List PageLine → List ℕ
lines_bytes rows cells fonts v [] = []
lines_bytes rows cells fonts v (l ∷ ls) =
    line_bytes rows cells fonts v l ++ lines_bytes rows cells (fonts_after cells fonts (cells_of_line l.line)) l.baseline ls

abbrev pub fonts_of_page : ℕ → Fonts
fonts_of_page defined = record { defined = defined; selected = None }

-- the beginning of a page: its number, nine more counts of 0, and the place of the page before
unfoldable pub page_head : ℕ → Option ℕ → List ℕ
page_head number previous = spell (Bop (number ∷ replicate 9 0) previous)

unfoldable pub page_bytes : List FontRow → List Cell → ℕ → ℕ → Option ℕ → Page → List ℕ
page_bytes rows cells defined number previous page =
    page_head number previous ++ lines_bytes rows cells (fonts_of_page defined) (pos 0) page.lines ++ spell Eop

unfoldable pub defined_after : List Cell → ℕ → Page → ℕ
defined_after cells defined page = (fonts_after cells (fonts_of_page defined) (cells_of_lines page.lines)).defined

-- place is where the first of these pages begins
abbrev pub pages_bytes : List FontRow → List Cell → ℕ → ℕ → ℕ → Option ℕ → List Page → List ℕ
pages_bytes rows cells defined place number previous [] = []
pages_bytes rows cells defined place number previous (p ∷ ps) =
    page_bytes rows cells defined number previous p
    ++ pages_bytes rows cells (defined_after cells defined p) (place + length (page_bytes rows cells defined number previous p)) (number + 1) (Some place) ps

-- where the last page begins
abbrev pub last_page : List FontRow → List Cell → ℕ → ℕ → ℕ → Option ℕ → List Page → Option ℕ
last_page rows cells defined place number previous [] = previous
last_page rows cells defined place number previous (p ∷ ps) =
    last_page rows cells (defined_after cells defined p) (place + length (page_bytes rows cells defined number previous p)) (number + 1) (Some place) ps

-- the beginning of a file and its pages
unfoldable pub paged_bytes : List FontRow → List Cell → List Page → List ℕ
paged_bytes rows cells pages = spell_all start ++ pages_bytes rows cells 0 (length (spell_all start)) 1 None pages

-- the postamble up to the definitions of the fonts
unfoldable pub post_bytes : Option ℕ → List Page → List ℕ
post_bytes last pages = spell (Post last (summary_of pages))

-- the end of a file: the place of the postamble, and what fills up a file of so many bytes
unfoldable pub end_bytes : ℕ → ℕ → List ℕ
end_bytes post len = spell (PostPost post (filling len))

-- and what stands behind the pages, but for the end
unfoldable pub unfilled_bytes : List FontRow → List Cell → List Page → List ℕ
unfilled_bytes rows cells pages =
    paged_bytes rows cells pages
    ++ post_bytes (last_page rows cells 0 (length (spell_all start)) 1 None pages) pages
    ++ spell_all (definitions_from rows 0 cells)

unfoldable pub file_bytes : List FontRow → List Cell → List Page → List ℕ
file_bytes rows cells pages =
    unfilled_bytes rows cells pages
    ++ end_bytes (length (paged_bytes rows cells pages)) (length (unfilled_bytes rows cells pages))
