-- What is written is the spelling of the document's commands.
use Rattle.std.proofs.Common.{◌≡◌, ℕ, ◌+◌, max, refl, ap, sym, subst, ◌∙◌, arith, Bool, true, false, cond, ◌||◌, nat_lt, List, [], ◌∷◌, ◌++◌, append_assoc, length, length-append, map, ℤ, pos, ◌+ℤ◌, ◌-ℤ◌, Option, Some, None}
use Rattle.std.specs.List.{last_or}
use Rattle.std.proofs.lemmas.Bool.Decides.{nat_tests}
use Rattle.std.proofs.lemmas.List.{append-nil}
use Rattle.instance_core.specs.declared.cell.Cell.{Cell}
use Rattle.instance_core.specs.declared.page.Placed.{Placed}
use Rattle.instance_core.specs.declared.page.PageLine.{PageLine}
use Rattle.instance_core.specs.Cells.{same_cell, has_cell}
use Rattle.instance_core.proofs.CellNumbers.{same_cell-is, same_cell-self}
use Rattle.renumber.specs.Uses.{cells_of_line, cells_of_lines, first_uses}
use Rattle.renumber.proofs.InsertedCells.{has_cell-append}
use Rattle.dvi_write.specs.declared.row.FontRow.{FontRow}
use Rattle.dvi_write.specs.declared.fonts.Fonts.{Fonts}
use Rattle.dvi_write.specs.Commands.{Command, spell, spell_all}
use Rattle.dvi_write.specs.Commands.Command.{Push, Pop}
use Rattle.dvi_write.specs.Document.{right, down, define, select, set_code, number_at, is_selected, font_commands, glyphs_commands, lines_commands}
use Rattle.dvi_write.specs.Writing.{font_bytes, font_after, fonts_after, glyph_bytes, glyphs_bytes, line_bytes, lines_bytes}
use Rattle.dvi_write.proofs.FirstUses.{defined-before, first_uses-known, first_uses-new, number-new, last_or-push}
use Rattle.dvi_write.proofs.Spelled.{spell_all-append, spell_all-cons}

-- what the file has said of fonts is what the cells before say
pub record Knows (before here : List Cell) (fonts : Fonts) : Type 0 where
  pub selected : fonts.selected ≡ last_or None here
  pub defined : fonts.defined ≡ length (first_uses before)
  pub known : (c : Cell) → is_selected (last_or None here) c ≡ true → has_cell before c ≡ true

-- a glyph's font
choice : (rows : List FontRow) (n : ℕ) (c : Cell) (selected defined : Bool)
    → spell_all (cond selected [] (cond defined [] (define rows n c ∷ []) ++ select n ∷ []))
    ≡ cond selected [] (cond defined [] (spell (define rows n c)) ++ spell (select n))
unfolding spell_all
choice rows n c true defined = refl
choice rows n c false true = append-nil (spell (select n))
choice rows n c false false = ap (λ xs. spell (define rows n c) ++ xs) (append-nil (spell (select n)))

pub font_spelled : (rows : List FontRow) (before here rest : List Cell) (fonts : Fonts) (c : Cell) → Knows before here fonts
    → spell_all (font_commands rows (first_uses (before ++ c ∷ rest)) before here c) ≡ font_bytes rows (first_uses (before ++ c ∷ rest)) fonts c
unfolding font_bytes
font_spelled rows before here rest fonts c knows =
    let n = number_at (first_uses (before ++ c ∷ rest)) c in
    choice rows (number_at (first_uses (before ++ c ∷ rest)) c) c (is_selected (last_or None here) c) (has_cell before c)
    ∙ (λ i. cond (is_selected (sym knows.selected i) c) []
    (cond ((sym (defined-before before (c ∷ rest) c) ∙ ap (λ m. nat_lt (number_at (first_uses (before ++ c ∷ rest)) c) m) (sym knows.defined)) i) [] (spell (define rows (number_at (first_uses (before ++ c ∷ rest)) c) c))
    ++ spell (select (number_at (first_uses (before ++ c ∷ rest)) c))))

-- and what is known after it
either_fonts : (b : Bool) (old new : Fonts) (o : Option Cell) → (b ≡ true → old.selected ≡ o) → new.selected ≡ o → (cond b old new).selected ≡ o
either_fonts true old new o kept made = kept refl
either_fonts false old new o kept made = made

either_count : (b h : Bool) (old new : Fonts) (n count next : ℕ) → (b ≡ true → h ≡ true) → old.defined ≡ count → nat_lt n count ≡ h
    → new.defined ≡ max old.defined (n + 1) → (h ≡ true → next ≡ count) → (h ≡ false → (next ≡ count + 1) × (n ≡ count)) → (cond b old new).defined ≡ next
either_count true h old new n count next known was test made keeps grows = was ∙ sym (keeps (known refl))
either_count false true old new n count next known was test made keeps grows =
    let kept = keeps refl in grind (arith, nat_tests)
either_count false false old new n count next known was test made keeps grows =
    let grown = grows refl in omega (arith, grown.0, grown.1, was, made)

pub knows_font : (before here rest : List Cell) (fonts : Fonts) (c : Cell) → Knows before here fonts
    → Knows (before ++ c ∷ []) (here ++ c ∷ []) (font_after (first_uses (before ++ c ∷ rest)) fonts c)
unfolding font_after
knows_font before here rest fonts c knows =
    let n = number_at (first_uses (before ++ c ∷ rest)) c in
    let last : last_or None (here ++ c ∷ []) ≡ Some c = last_or-push None here c in
    record {
      selected =
          either_fonts (is_selected fonts.selected c) fonts (record { defined = max fonts.defined (number_at (first_uses (before ++ c ∷ rest)) c + 1); selected = Some c }) (Some c)
          (λ is. selected_is fonts.selected is) refl
          ∙ sym last;
      defined =
          either_count (is_selected fonts.selected c) (has_cell before c) fonts (record { defined = max fonts.defined (number_at (first_uses (before ++ c ∷ rest)) c + 1); selected = Some c })
          (number_at (first_uses (before ++ c ∷ rest)) c) (length (first_uses before)) (length (first_uses (before ++ c ∷ [])))
          (λ is. knows.known c (ap (λ o. is_selected o c) (sym knows.selected) ∙ is)) knows.defined (defined-before before (c ∷ rest) c) refl
          (λ has. ap length (first_uses-known before c has))
          (λ new. (ap length (first_uses-new before c new) ∙ length-append (first_uses before) (c ∷ []), number-new before rest c new));
      known = λ x is.
          has_cell-append before (c ∷ []) x
          ∙ last_known (has_cell before x) (same_cell x c)
          (ap (λ y. same_cell y c) (sym (same_cell-is c x (ap (λ o. is_selected o x) (sym last) ∙ is))) ∙ same_cell-self c);
    }
  where
    selected_is : (o : Option Cell) → is_selected o c ≡ true → o ≡ Some c
    selected_is None is = absurd (cc)
    selected_is (Some x) is = ap Some (same_cell-is x c is)

    last_known : (h s : Bool) → s ≡ true → h || (s || false) ≡ true
    last_known true s is = refl
    last_known false s is = ap (λ b. b || false) is

-- glyphs, one after another
font_spelled-at : (rows : List FontRow) (cells before here rest : List Cell) (fonts : Fonts) (c : Cell) → cells ≡ first_uses (before ++ c ∷ rest)
    → Knows before here fonts → spell_all (font_commands rows cells before here c) ≡ font_bytes rows cells fonts c
font_spelled-at rows cells before here rest fonts c is knows =
    (λ i. spell_all (font_commands rows (is i) before here c)) ∙ font_spelled rows before here rest fonts c knows
    ∙ ap (λ cs. font_bytes rows cs fonts c) (sym is)

knows_font-at : (cells before here rest : List Cell) (fonts : Fonts) (c : Cell) → cells ≡ first_uses (before ++ c ∷ rest)
    → Knows before here fonts → Knows (before ++ c ∷ []) (here ++ c ∷ []) (font_after cells fonts c)
knows_font-at cells before here rest fonts c is knows =
    let P : List Cell → Type 0 = λ cs. Knows (before ++ c ∷ []) (here ++ c ∷ []) (font_after cs fonts c) in
    subst P (sym is) (knows_font before here rest fonts c knows)

abbrev pub line_cells : List Placed → List Cell
line_cells glyphs = map (λ (g : Placed). g.cell) glyphs

one_more : (cells before rest : List Cell) (c : Cell) → cells ≡ first_uses (before ++ c ∷ rest) → cells ≡ first_uses ((before ++ c ∷ []) ++ rest)
one_more cells before rest c is = is ∙ ap first_uses (sym (append_assoc before (c ∷ []) rest))

spelled_glyph : (a f r : List Command) (s : Command) (b rest : List ℕ) → spell_all f ≡ b → spell_all r ≡ rest
    → spell_all (a ++ f ++ s ∷ r) ≡ (spell_all a ++ b ++ spell s) ++ rest
spelled_glyph a f r s b rest font later =
    spell_all-append (a ++ f) (s ∷ r) ∙ (λ i. spell_all-append a f i ++ spell_all-cons s r i)
    ∙ (λ i. (spell_all a ++ font i) ++ (spell s ++ later i)) ∙ sym (append_assoc (spell_all a ++ b) (spell s) rest)

pub glyphs_spelled : (rows : List FontRow) (cells before here rest : List Cell) (fonts : Fonts) (h : ℤ) (glyphs : List Placed)
    → cells ≡ first_uses (before ++ (line_cells glyphs ++ rest)) → Knows before here fonts
    → spell_all (glyphs_commands rows cells before here h glyphs) ≡ glyphs_bytes rows cells fonts h glyphs
unfolding glyph_bytes spell_all
glyphs_spelled rows cells before here rest fonts h [] is knows = refl
glyphs_spelled rows cells before here rest fonts h (g ∷ gs) is knows =
    spelled_glyph (right (g.x -ℤ h)) (font_commands rows cells before here g.cell) _ (set_code g.code) _ _
    (font_spelled-at rows cells before here (line_cells gs ++ rest) fonts g.cell is knows)
    (glyphs_spelled rows cells (before ++ g.cell ∷ []) (here ++ g.cell ∷ []) rest (font_after cells fonts g.cell) (g.x +ℤ g.advance) gs
    (one_more cells before (line_cells gs ++ rest) g.cell is) (knows_font-at cells before here (line_cells gs ++ rest) fonts g.cell is knows))

pub knows_cells : (cells before here rest : List Cell) (fonts : Fonts) (cs : List Cell) → cells ≡ first_uses (before ++ (cs ++ rest))
    → Knows before here fonts → Knows (before ++ cs) (here ++ cs) (fonts_after cells fonts cs)
knows_cells cells before here rest fonts [] is knows =
    let P : List Cell → List Cell → Type 0 = λ b h. Knows b h fonts in
    subst (λ b. P b (here ++ [])) (sym (append-nil before)) (subst (λ h. P before h) (sym (append-nil here)) knows)
knows_cells cells before here rest fonts (c ∷ cs) is knows =
    let P : List Cell → List Cell → Type 0 = λ b h. Knows b h (fonts_after cells (font_after cells fonts c) cs) in
    subst (λ b. P b (here ++ c ∷ cs)) (append_assoc before (c ∷ []) cs)
    (subst (λ h. P ((before ++ c ∷ []) ++ cs) h) (append_assoc here (c ∷ []) cs)
    (knows_cells cells (before ++ c ∷ []) (here ++ c ∷ []) rest (font_after cells fonts c) cs
    (one_more cells before (cs ++ rest) c is) (knows_font-at cells before here (cs ++ rest) fonts c is knows)))

-- lines, one after another
spelled_line : (a g r : List Command) (b rest : List ℕ) → spell_all g ≡ b → spell_all r ≡ rest
    → spell_all (a ++ Push ∷ g ++ Pop ∷ r) ≡ (spell_all a ++ spell Push ++ b ++ spell Pop) ++ rest
spelled_line a g r b rest glyphs later =
    spell_all-append (a ++ Push ∷ g) (Pop ∷ r)
    ∙ (λ i. (spell_all-append a (Push ∷ g) ∙ ap (λ xs. spell_all a ++ xs) (spell_all-cons Push g) ∙ ap (λ xs. spell_all a ++ (spell Push ++ xs)) glyphs) i
    ++ (spell_all-cons Pop r ∙ ap (λ xs. spell Pop ++ xs) later) i)
    ∙ ap (λ xs. xs ++ (spell Pop ++ rest)) (sym (append_assoc (spell_all a) (spell Push) b))
    ∙ sym (append_assoc (spell_all a ++ spell Push ++ b) (spell Pop) rest)

first_line : (cells before : List Cell) (l : PageLine) (ls : List PageLine) (rest : List Cell)
    → cells ≡ first_uses (before ++ (cells_of_lines (l ∷ ls) ++ rest)) → cells ≡ first_uses (before ++ (cells_of_line l.line ++ (cells_of_lines ls ++ rest)))
first_line cells before l ls rest is = is ∙ ap (λ cs. first_uses (before ++ cs)) (append_assoc (cells_of_line l.line) (cells_of_lines ls) rest)

later_lines : (cells before : List Cell) (xs ys : List Cell) → cells ≡ first_uses (before ++ (xs ++ ys)) → cells ≡ first_uses ((before ++ xs) ++ ys)
later_lines cells before xs ys is = is ∙ ap first_uses (sym (append_assoc before xs ys))

pub lines_spelled : (rows : List FontRow) (cells before here rest : List Cell) (fonts : Fonts) (v : ℤ) (lines : List PageLine)
    → cells ≡ first_uses (before ++ (cells_of_lines lines ++ rest)) → Knows before here fonts
    → spell_all (lines_commands rows cells before here v lines) ≡ lines_bytes rows cells fonts v lines
unfolding line_bytes spell_all
lines_spelled rows cells before here rest fonts v [] is knows = refl
lines_spelled rows cells before here rest fonts v (l ∷ ls) is knows =
    let line = first_line cells before l ls rest is in
    spelled_line (down (l.baseline -ℤ v)) (glyphs_commands rows cells before here (pos 0) l.line.glyphs) _ _ _
    (glyphs_spelled rows cells before here (cells_of_lines ls ++ rest) fonts (pos 0) l.line.glyphs line knows)
    (lines_spelled rows cells (before ++ cells_of_line l.line) (here ++ cells_of_line l.line) rest (fonts_after cells fonts (cells_of_line l.line)) l.baseline ls
    (later_lines cells before (cells_of_line l.line) (cells_of_lines ls ++ rest) line)
    (knows_cells cells before here (cells_of_lines ls ++ rest) fonts (cells_of_line l.line) line knows))
