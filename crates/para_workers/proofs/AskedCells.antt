-- The cells that lines ask for, one line after another.
--     more-asked              one line more asked for its own
--     some-asked              a line that is refused asked for some
--     none-asked, all-asked   none or all of them are some
use Rattle.std.proofs.Common.{◌≡◌, refl, ap, sym, ◌∙◌, List, [], ◌∷◌, ◌++◌, append_assoc, append-nil}
use Rattle.std.proofs.lemmas.Grind.{flat_map-append}
use Rattle.instance_core.specs.declared.cell.Cell.{Cell}
use Rattle.instance_core.specs.declared.font.BaseFont.{BaseFont}
use Rattle.instance_core.specs.declared.page.Packed.{Packed}
use Rattle.instance_core.specs.Cells.{in_cell_order}
use Rattle.hpack_two.specs.Answers.{touched_with}
use Rattle.hpack_two.specs.Lines.{stepped}
use Rattle.hpack_two.proofs.Cells.{touched-more}
use Rattle.para_workers.specs.Touched.{TouchedSome, cells_on}

cells-append : (lines more : List Packed) → cells_on (lines ++ more) ≡ cells_on lines ++ cells_on more
unfolding cells_on
cells-append lines more = flat_map-append (λ (line : Packed). stepped line.glyphs) lines more

cells-one : (line : Packed) (rest : List Packed) → cells_on (line ∷ rest) ≡ stepped line.glyphs ++ cells_on rest
unfolding cells_on
cells-one line rest = refl

cells-none : cells_on [] ≡ []
unfolding cells_on
cells-none = refl

cells-push : (lines : List Packed) (line : Packed) → cells_on lines ++ stepped line.glyphs ≡ cells_on (lines ++ line ∷ [])
cells-push lines line =
    ap (λ cells. cells_on lines ++ cells)
    (sym (append-nil (stepped line.glyphs)) ∙ ap (λ cells. stepped line.glyphs ++ cells) (sym cells-none) ∙ sym (cells-one line []))
    ∙ sym (cells-append lines (line ∷ []))

pub no-line-asked : (bases : List BaseFont) (before : List Cell) → before ≡ in_cell_order bases before → before ≡ touched_with bases (cells_on []) before
no-line-asked bases before is = is ∙ ap (λ (cells : List Cell). touched_with bases cells before) (sym cells-none)

pub more-asked : (bases : List BaseFont) (lines : List Packed) (line : Packed) (before old new : List Cell)
    → old ≡ touched_with bases (cells_on lines) before → new ≡ touched_with bases (stepped line.glyphs) old
    → new ≡ touched_with bases (cells_on (lines ++ line ∷ [])) before
more-asked bases lines line before old new so_far next =
    next
    ∙ ap (touched_with bases (stepped line.glyphs)) so_far
    ∙ touched-more bases (cells_on lines) (stepped line.glyphs) before
    ∙ ap (λ (cells : List Cell). touched_with bases cells before) (cells-push lines line)

pub none-asked : (cells : List Cell) (bases : List BaseFont) (before : List Cell) → before ≡ in_cell_order bases before → TouchedSome cells bases before before
none-asked cells bases before is = record { asked = []; unasked = cells; all = refl; touched = is }

pub all-asked : (cells : List Cell) (bases : List BaseFont) (before after : List Cell) → after ≡ touched_with bases cells before → TouchedSome cells bases before after
all-asked cells bases before after is = record { asked = cells; unasked = []; all = append-nil cells; touched = is }

pub first-asked : (bases : List BaseFont) (lines rest whole : List Packed) (before after : List Cell) → lines ++ rest ≡ whole
    → after ≡ touched_with bases (cells_on lines) before → TouchedSome (cells_on whole) bases before after
first-asked bases lines rest whole before after all is = record {
  asked = cells_on lines;
  unasked = cells_on rest;
  all = sym (cells-append lines rest) ∙ ap cells_on all;
  touched = is;
}

pub some-asked : (bases : List BaseFont) (lines rest whole : List Packed) (line : Packed) (before old new : List Cell) → lines ++ line ∷ rest ≡ whole
    → old ≡ touched_with bases (cells_on lines) before → TouchedSome (stepped line.glyphs) bases old new → TouchedSome (cells_on whole) bases before new
some-asked bases lines rest whole line before old new all so_far own = record {
  asked = cells_on lines ++ own.asked;
  unasked = own.unasked ++ cells_on rest;
  all = append_assoc (cells_on lines) own.asked (own.unasked ++ cells_on rest)
      ∙ ap (λ cells. cells_on lines ++ cells) (sym (append_assoc own.asked own.unasked (cells_on rest)) ∙ ap (λ cells. cells ++ cells_on rest) own.all ∙ sym (cells-one line rest))
      ∙ sym (cells-append lines (line ∷ rest)) ∙ ap cells_on all;
  touched = own.touched ∙ ap (touched_with bases own.asked) so_far ∙ touched-more bases (cells_on lines) own.asked before;
}
