-- What a DVI file says of the fonts of a job (DVI description, "fnt_def").
--     row_with decl font      the name that was declared, and what the font's metrics say
--     rows_of fonts stock     that of each font, in the order of declaration
use Rattle.std.specs.Prelude.{List, [], ◌∷◌}
use Rattle.font_stock.specs.declared.font.Font.{Font}
use Rattle.dvi_write.specs.declared.row.FontRow.{FontRow}
use Rattle.job_text.specs.declared.font_decl.FontDecl.{FontDecl}

abbrev pub row_with : FontDecl → Font → FontRow
row_with decl font = record {
  name = decl.name;
  checksum = font.tfm.checksum;
  size = font.size;
  design = font.tfm.design;
}

unfoldable pub rows_of : List FontDecl → List Font → List FontRow
rows_of [] stock = []
rows_of (decl ∷ fonts) [] = []
rows_of (decl ∷ fonts) (font ∷ stock) = row_with decl font ∷ rows_of fonts stock
