-- The page of a paragraph (TeX: The Program, parts 38 and 39, and sections 649 to 679).
--     paragraph_of                     what the list of a paragraph is broken by
--     line_between, set_line_between   the line from a break to a place, before it is set and set
--     set_lines                        the lines that end at some breaks
--     lines_of, lines_of_par           the lines of the pass that is taken
--     first_refused                    the first line, from 1, with a glyph out of range
--     lines_in_range                   the lines, or the first that is refused
--     stacked_in_range                 the page of the lines, or the first that is past its bounds
--     page_by                          both, one after the other
--     set_par                          the page of a paragraph, or its fault
use Rattle.std.specs.Prelude.{ℕ, ◌+◌, pos, int_lt, Bool, false, List, [], ◌∷◌, Option, Some, None, is_some, Result, Ok, Err, if◌then◌else◌}
use Rattle.std.specs.List.{position_from}
use Rattle.font_stock.specs.declared.font.Font.{Font}
use Rattle.hlist_hyph.specs.Hyphenated.{Places}
use Rattle.micro_num.specs.declared.paragraph.Par.{Par}
use Rattle.micro_num.specs.declared.params.Params.{Params}
use Rattle.micro_num.specs.declared.tables.Tables.{Tables}
use Rattle.micro_num.specs.Shape.{line_at}
use Rattle.hlist.specs.declared.item.HList.{HList}
use Rattle.hlist.specs.declared.item.Item.{Item}
use Rattle.hlist_build.specs.Paragraph.{list_of}
use Rattle.hlist_build.specs.declared.fault.ParFault.{ParFault}
use Rattle.hlist_build.specs.declared.fault.ParFault.TheVariants.{OutOfRange}
use Rattle.break_rule.specs.Fits.{Rule}
use Rattle.break_rule.specs.Lines.{line_pieces}
use Rattle.break_rule.specs.declared.line.From.{From}
use Rattle.break_rule.specs.declared.line.From.TheVariants.{Start, After}
use Rattle.break_rule.specs.declared.line.LineIn.{LineIn}
use Rattle.line_break.specs.Taken.{Taken, first_taken}
use Rattle.paragraph_breaks.specs.Passes.{Paragraph, items_of, passes_of, rule_over}
use Rattle.instance_core.specs.declared.page.Packed.{Packed}
use Rattle.instance_core.specs.declared.page.Page.{Page}
use Rattle.hpack_two.specs.Lines.{first_out, set_line}
use Rattle.dvi_write.specs.Stacking.{first_past, page_of}

abbrev pub paragraph_of : Par → Tables → Places → List Font → List Item → Paragraph
paragraph_of par tables places stock items = record {
  items = items;
  params = par.params;
  shape = par.shape;
  tables = tables;
  places = places;
  stock = stock;
}

-- the line from a break to a place, whose fonts may be expanded where `pdfadjustspacing` is above 0
abbrev pub line_between : Rule → From → ℕ → LineIn
line_between rule from to = record {
  pieces = line_pieces rule.params rule.stock rule.items from to;
  expand = int_lt (pos 0) rule.params.pdfadjustspacing;
}

-- it is set in the width and with the indent of the line of its number
unfoldable pub set_line_between : Rule → ℕ → From → ℕ → Packed
set_line_between rule number from to =
    set_line rule.stock (line_between rule from to)
    (line_at rule.params rule.shape number).width (line_at rule.params rule.shape number).indent

-- each line behind the first begins behind the break at which the one before it ends
unfoldable pub set_lines : Rule → ℕ → From → List ℕ → List Packed
set_lines rule number from [] = []
set_lines rule number from (to ∷ breaks) =
    set_line_between rule number from to ∷ set_lines rule (number + 1) (After to) breaks

-- what a pass breaks
abbrev pub rule_of_pass : Paragraph → ℕ → Rule
rule_of_pass p number = rule_over (items_of p number) p.params p.shape p.stock false

-- the lines of a pass that is taken
abbrev pub lines_taken : Paragraph → Option Taken → List Packed
lines_taken p None = []
lines_taken p (Some taken) = set_lines (rule_of_pass p taken.number) 1 Start taken.breaks

unfoldable pub lines_of : Paragraph → List Packed
lines_of p = lines_taken p (first_taken p.params.looseness (passes_of p))

abbrev pub is_refused : Packed → Bool
is_refused line = is_some (first_out line.glyphs)

abbrev pub first_refused : List Packed → Option ℕ
first_refused lines = position_from is_refused 1 lines

-- an answer, but that a line is out of range where there is one
abbrev pub out_of_range_or : {T : Type 0} → Option ℕ → Result T ParFault → Result T ParFault
out_of_range_or None answer = answer
out_of_range_or (Some line) answer = Err (OutOfRange line)

-- one line, refused by its number
unfoldable pub line_in_range : Rule → ℕ → From → ℕ → Result Packed ParFault
line_in_range rule number from to =
    if is_refused (set_line_between rule number from to) then Err (OutOfRange number)
    else Ok (set_line_between rule number from to)

unfoldable pub lines_in_range : List Packed → Result (List Packed) ParFault
lines_in_range lines = out_of_range_or (first_refused lines) (Ok lines)

unfoldable pub stacked_in_range : Params → List Packed → Result Page ParFault
stacked_in_range params lines = out_of_range_or (first_past params lines) (Ok (page_of params lines))

-- all lines are set before they become a page
unfoldable pub page_by : Params → List Packed → Result Page ParFault
page_by params lines = out_of_range_or (first_refused lines) (stacked_in_range params lines)

abbrev pub lines_of_list : Par → Tables → Places → List Font
    → Result HList ParFault → List Packed
lines_of_list par tables places stock (Ok list) =
    lines_of (paragraph_of par tables places stock list.items)
lines_of_list par tables places stock (Err fault) = []

-- the lines of a paragraph, none where it has no list
unfoldable pub lines_of_par : Par → Tables → Places → List Font → List Packed
lines_of_par par tables places stock =
    lines_of_list par tables places stock (list_of par tables stock)

abbrev pub set_list : Par → Tables → Places → List Font
    → Result HList ParFault → Result Page ParFault
set_list par tables places stock (Ok list) =
    page_by par.params (lines_of (paragraph_of par tables places stock list.items))
set_list par tables places stock (Err fault) = Err fault

-- the page of a paragraph, or its first fault, where memory suffices
unfoldable pub set_par : Par → Tables → Places → List Font → Result Page ParFault
set_par par tables places stock = set_list par tables places stock (list_of par tables stock)
