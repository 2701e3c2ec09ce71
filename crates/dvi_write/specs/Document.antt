-- The commands of a DVI file of pages, whose fonts are numbered by first use.
--     right z, down z                    a move
--     define rows number cell            the definition of the font of a cell
--     select number                      the selection of a font
--     set_code code                      a glyph
--     font_commands .. lines_commands    a glyph's font, the glyphs of a line, the lines of a page
--     last_bop commands                  where the last page among the commands begins
--     page_commands, with_pages          a page, and the commands with those of pages behind them
--     document rows pages                the commands of the whole file
--     dvi rows pages                     its bytes
use Rattle.std.specs.Prelude.{ℕ, ◌+◌, ◌-◌, ◌%◌, min, List, [], ◌∷◌, ◌++◌, length, map, fold, replicate, Bool, true, false, nat_eq, nat_lt, if◌then◌else◌, Option, Some, None, ℤ, pos, ◌+ℤ◌, ◌-ℤ◌, int_lt, unsigned_abs, slice_index_or, codes}
use Rattle.std.specs.Int.{int_max}
use Rattle.std.specs.Fmt.{decimal}
use Rattle.std.specs.List.{last_or, position_or_len}
use Rattle.std.specs.Ordering.{int_eq}
use Rattle.byteorder.specs.Endian.{big_bytes}
use Rattle.instance_core.specs.declared.cell.Cell.{Cell}
use Rattle.instance_core.specs.declared.page.Placed.{Placed}
use Rattle.instance_core.specs.declared.page.PageLine.{PageLine}
use Rattle.instance_core.specs.declared.page.Page.{Page}
use Rattle.instance_core.specs.Cells.{same_cell, has_cell}
use Rattle.renumber.specs.Uses.{cells_of_line, cells_of_lines, cells_of_pages, first_uses}
use Rattle.dvi_write.specs.declared.opcodes.TheConstants.{FNT_DEF1}
use Rattle.dvi_write.specs.declared.row.FontRow.{FontRow}
use Rattle.dvi_write.specs.Commands.{Command, Summary, signed_bytes, spell, spell_all}
use Rattle.dvi_write.specs.Commands.Command.{SetChar, Set, Bop, Eop, Push, Pop, Right, Down, FontNumber, Font, FontDefinition, Pre, Post, PostPost}

-- a number other than 0 takes as few bytes as hold it with its sign
abbrev pub bytes_for : ℤ → ℕ
bytes_for z =
    if nat_lt (unsigned_abs z) 128 then 1 else (if nat_lt (unsigned_abs z) 32768 then 2 else (if nat_lt (unsigned_abs z) 8388608 then 3 else 4))

unfoldable pub right : ℤ → List Command
right z = if nat_eq (unsigned_abs z) 0 then [] else (Right (bytes_for z) z ∷ [])

unfoldable pub down : ℤ → List Command
down z = if nat_eq (unsigned_abs z) 0 then [] else (Down (bytes_for z) z ∷ [])

-- what is put behind a font's name for its instance at a step
abbrev pub step_suffix : ℤ → List ℕ
step_suffix step = if int_eq step (pos 0) then [] else ((if int_lt step (pos 0) then 45 else 43) ∷ decimal (unsigned_abs step))

unfoldable pub instance_name : FontRow → Cell → List ℕ
instance_name row cell = row.name ++ step_suffix cell.step

abbrev pub no_row : FontRow
no_row = record { name = []; checksum = 0; size = pos 0; design = pos 0 }

unfoldable pub row_of : List FontRow → Cell → FontRow
row_of rows cell = slice_index_or rows cell.font no_row

-- a font's number is the place of its cell among the first uses
unfoldable pub number_at : List Cell → Cell → ℕ
number_at fonts cell = position_or_len (same_cell cell) fonts

abbrev pub bytes_of_number : ℕ → ℕ
bytes_of_number number = if nat_lt number 256 then 1 else 2

-- the command that defines the font of a number, before what it says of the font
abbrev pub definition_head : ℕ → List ℕ
definition_head number = (FNT_DEF1 + (bytes_of_number number - 1)) ∷ big_bytes (bytes_of_number number) number

abbrev pub row_sizes : FontRow → List ℕ
row_sizes row = big_bytes 4 row.checksum ++ signed_bytes 4 row.size ++ signed_bytes 4 row.design

-- a name without an area, behind the lengths of both
abbrev pub name_bytes : List ℕ → List ℕ
name_bytes name = 0 ∷ length name ∷ name

-- checksum, size and design size are those of the font as it is
unfoldable pub define : List FontRow → ℕ → Cell → Command
define rows number cell =
    FontDefinition (bytes_of_number number) number (record {
      checksum = (row_of rows cell).checksum;
      size = (row_of rows cell).size;
      design = (row_of rows cell).design;
      area = [];
      name = instance_name (row_of rows cell) cell;
    })

unfoldable pub select : ℕ → Command
select number = if nat_lt number 64 then FontNumber number else Font (bytes_of_number number) number

unfoldable pub set_code : ℕ → Command
set_code code = if nat_lt code 128 then SetChar code else Set 1 code

-- whether the last of the cells is this one
abbrev pub is_selected : Option Cell → Cell → Bool
is_selected None cell = false
is_selected (Some c) cell = same_cell c cell

-- The font of a glyph, where the glyph before on the page has another, or there is none: its definition, where no
-- glyph before in the file has it, and its selection.
abbrev pub font_commands : List FontRow → List Cell → List Cell → List Cell → Cell → List Command
font_commands rows fonts before here cell =
    if is_selected (last_or None here) cell then []
    else ((if has_cell before cell then [] else (define rows (number_at fonts cell) cell ∷ [])) ++ select (number_at fonts cell) ∷ [])

-- The glyphs of a line. The cells before are those of all glyphs before in the file, and those here are of this
-- page; h is where the glyph before on the line ends.
abbrev pub glyphs_commands : List FontRow → List Cell → List Cell → List Cell → ℤ → List Placed → List Command
glyphs_commands rows fonts before here h [] = []
glyphs_commands rows fonts before here h (g ∷ gs) =
    right (g.x -ℤ h) ++ font_commands rows fonts before here g.cell ++ set_code g.code
    ∷ glyphs_commands rows fonts (before ++ g.cell ∷ []) (here ++ g.cell ∷ []) (g.x +ℤ g.advance) gs

-- the lines of a page; v is the baseline of the line before
abbrev pub lines_commands : List FontRow → List Cell → List Cell → List Cell → ℤ → List PageLine → List Command
lines_commands rows fonts before here v [] = []
lines_commands rows fonts before here v (l ∷ ls) =
    down (l.baseline -ℤ v) ++ Push ∷ glyphs_commands rows fonts before here (pos 0) l.line.glyphs ++ Pop
    ∷ lines_commands rows fonts (before ++ cells_of_line l.line) (here ++ cells_of_line l.line) l.baseline ls

-- the place of the last page that begins among the commands; a place is the length of what stands before
abbrev pub is_bop : Command → Bool
is_bop (Bop counts previous) = true
is_bop _ = false

abbrev pub last_bop_from : ℕ → Option ℕ → List Command → Option ℕ
last_bop_from place found [] = found
last_bop_from place found (c ∷ cs) = last_bop_from (place + length (spell c)) (if is_bop c then Some place else found) cs

unfoldable pub last_bop : List Command → Option ℕ
last_bop commands = last_bop_from 0 None commands

-- a page, with its number and the place of the page before
unfoldable pub page_commands : List FontRow → List Cell → List Cell → ℕ → Option ℕ → Page → List Command
page_commands rows fonts before number previous page =
    Bop (number ∷ replicate 9 0) previous ∷ lines_commands rows fonts before [] (pos 0) page.lines ++ Eop ∷ []

-- commands with those of the pages behind them, of which the first has this number
abbrev pub with_pages : List FontRow → List Cell → List Command → List Cell → ℕ → List Page → List Command
with_pages rows fonts commands before number [] = commands
with_pages rows fonts commands before number (p ∷ ps) =
    with_pages rows fonts (commands ++ page_commands rows fonts before number (last_bop commands) p) (before ++ cells_of_lines p.lines) (number + 1) ps

-- the greatest extent and width, each at least 0
abbrev pub greatest_extent : List Page → ℤ
greatest_extent pages = fold int_max (pos 0) (map (λ (page : Page). page.extent) pages)

abbrev pub greatest_width : List Page → ℤ
greatest_width pages = fold int_max (pos 0) (map (λ (page : Page). page.width) pages)

-- the definitions of the fonts from this number on, the highest first
abbrev pub definitions_from : List FontRow → ℕ → List Cell → List Command
definitions_from rows number [] = []
definitions_from rows number (c ∷ cs) = definitions_from rows (number + 1) cs ++ define rows number c ∷ []

-- DVI's unit is the scaled point, 25400000 / 473628672 of 10 ^ -7 metres; nothing is magnified
abbrev pub unit : List ℕ
unit = 25400000 ∷ 473628672 ∷ 1000 ∷ []

abbrev pub start : List Command
start = Pre unit (codes " pdfmicro output") ∷ []

unfoldable pub body : List FontRow → List Cell → List Page → List Command
body rows fonts pages = with_pages rows fonts start [] 1 pages

-- a page pushes once, so the stack is one deep where there is a page
abbrev pub summary_of : List Page → Summary
summary_of pages = record {
  unit = unit;
  extent = greatest_extent pages;
  width = greatest_width pages;
  depth = min (length pages) 1;
  pages = length pages;
}

unfoldable pub unfilled : List FontRow → List Cell → List Page → List Command
unfilled rows fonts pages =
    body rows fonts pages
    ++ Post (last_bop (body rows fonts pages)) (summary_of pages) ∷ definitions_from rows 0 fonts

-- four to seven bytes fill a file up to a multiple of four; six more stand before them
abbrev pub filling : ℕ → ℕ
filling len = 7 - (len + 6 + 3) % 4

unfoldable pub document : List FontRow → List Page → List Command
document rows pages =
    unfilled rows (first_uses (cells_of_pages pages)) pages
    ++ PostPost (length (spell_all (body rows (first_uses (cells_of_pages pages)) pages)))
    (filling (length (spell_all (unfilled rows (first_uses (cells_of_pages pages)) pages)))) ∷ []

unfoldable pub dvi : List FontRow → List Page → List ℕ
dvi rows pages = spell_all (document rows pages)
