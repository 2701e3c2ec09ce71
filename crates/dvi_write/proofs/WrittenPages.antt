-- The pages and the file as they are written are the spelling of the document's commands.
use Rattle.std.proofs.Common.{◌≡◌, ℕ, ◌+◌, refl, ap, sym, ◌∙◌, arith, Bool, true, false, cond, ◌||◌, List, [], ◌∷◌, ◌++◌, append_assoc, length, length-append, ℤ, pos, ◌+ℤ◌, ◌-ℤ◌, Option, Some, None, replicate, nat_eq, nat_lt}
use Rattle.std.specs.Prelude.{unsigned_abs}
use Rattle.std.specs.List.{list_any, last_or}
use Rattle.std.proofs.lemmas.List.{append-nil}
use Rattle.std.proofs.lemmas.List.Folds.{list_any-append}
use Rattle.instance_core.specs.declared.cell.Cell.{Cell}
use Rattle.instance_core.specs.declared.page.Placed.{Placed}
use Rattle.instance_core.specs.declared.page.PageLine.{PageLine}
use Rattle.instance_core.specs.declared.page.Page.{Page}
use Rattle.instance_core.specs.Cells.{has_cell}
use Rattle.renumber.specs.Uses.{cells_of_line, cells_of_lines, cells_of_pages, first_uses}
use Rattle.dvi_write.specs.declared.row.FontRow.{FontRow}
use Rattle.dvi_write.specs.Commands.{Command, spell, spell_all}
use Rattle.dvi_write.specs.Commands.Command.{SetChar, Set, Bop, Eop, Push, Right, Down, FontNumber, Font, Post, PostPost}
use Rattle.dvi_write.specs.Document.{bytes_for, bytes_of_number, right, down, define, select, set_code, number_at, is_selected, font_commands, glyphs_commands, lines_commands, is_bop, last_bop_from, last_bop, page_commands, with_pages, start, body, unfilled, document, dvi, definitions_from, summary_of, filling}
use Rattle.dvi_write.specs.Writing.{fonts_of_page, page_head, page_bytes, defined_after, pages_bytes, last_page, paged_bytes, unfilled_bytes, file_bytes, post_bytes, end_bytes}
use Rattle.dvi_write.proofs.Spelled.{spell_all-append, spell_all-cons, spell_all-one}
use Rattle.dvi_write.proofs.WrittenCommands.{Knows, lines_spelled, knows_cells}

-- where the last page begins, over two lists, and over one without a page
last_bop_from-append : (place : ℕ) (found : Option ℕ) (xs ys : List Command)
    → last_bop_from place found (xs ++ ys) ≡ last_bop_from (place + length (spell_all xs)) (last_bop_from place found xs) ys
unfolding spell_all
last_bop_from-append place found [] ys = ap (λ n. last_bop_from n found ys) (omega arith)
last_bop_from-append place found (x ∷ xs) ys =
    last_bop_from-append (place + length (spell x)) (cond (is_bop x) (Some place) found) xs ys
    ∙ ap (λ n. last_bop_from n (last_bop_from (place + length (spell x)) (cond (is_bop x) (Some place) found) xs) ys)
    (let both = length-append (spell x) (spell_all xs) in omega (arith, both))

quiet : (place : ℕ) (found : Option ℕ) (xs : List Command) → list_any is_bop xs ≡ false → last_bop_from place found xs ≡ found
quiet place found [] none = refl
quiet place found (x ∷ xs) none =
    ap (λ o. last_bop_from (place + length (spell x)) o xs) (ap (λ b. cond b (Some place) found) (neither (is_bop x) (list_any is_bop xs) none).0)
    ∙ quiet (place + length (spell x)) found xs (neither (is_bop x) (list_any is_bop xs) none).1
  where
    neither : (a b : Bool) → a || b ≡ false → (a ≡ false) × (b ≡ false)
    neither true b none = absurd (cc)
    neither false b none = (refl, none)

both_quiet : (xs ys : List Command) → list_any is_bop xs ≡ false → list_any is_bop ys ≡ false → list_any is_bop (xs ++ ys) ≡ false
both_quiet xs ys first second = list_any-append is_bop xs ys ∙ ap (λ b. b || list_any is_bop ys) first ∙ second

quiet_cond : (b : Bool) (xs ys : List Command) → list_any is_bop xs ≡ false → list_any is_bop ys ≡ false → list_any is_bop (cond b xs ys) ≡ false
quiet_cond true xs ys first second = first
quiet_cond false xs ys first second = second

quiet_right : (z : ℤ) → list_any is_bop (right z) ≡ false
unfolding right
quiet_right z = quiet_cond (nat_eq (unsigned_abs z) 0) [] (Right (bytes_for z) z ∷ []) refl refl

quiet_down : (z : ℤ) → list_any is_bop (down z) ≡ false
unfolding down
quiet_down z = quiet_cond (nat_eq (unsigned_abs z) 0) [] (Down (bytes_for z) z ∷ []) refl refl

one_cond : (b : Bool) (x y : Command) → is_bop x ≡ false → is_bop y ≡ false → is_bop (cond b x y) ≡ false
one_cond true x y first second = first
one_cond false x y first second = second

quiet_select : (n : ℕ) → is_bop (select n) ≡ false
unfolding select
quiet_select n = one_cond (nat_lt n 64) (FontNumber n) (Font (bytes_of_number n) n) refl refl

quiet_code : (code : ℕ) → is_bop (set_code code) ≡ false
unfolding set_code
quiet_code code = one_cond (nat_lt code 128) (SetChar code) (Set 1 code) refl refl

quiet_define : (rows : List FontRow) (n : ℕ) (c : Cell) → is_bop (define rows n c) ≡ false
unfolding define
quiet_define rows n c = refl

quiet_one : (x : Command) (xs : List Command) → is_bop x ≡ false → list_any is_bop xs ≡ false → list_any is_bop (x ∷ xs) ≡ false
quiet_one x xs first rest = ap (λ b. b || list_any is_bop xs) first ∙ rest

quiet_font : (rows : List FontRow) (fonts before here : List Cell) (c : Cell) → list_any is_bop (font_commands rows fonts before here c) ≡ false
quiet_font rows fonts before here c =
    quiet_cond (is_selected (last_or None here) c) [] _ refl
    (both_quiet (cond (has_cell before c) [] (define rows (number_at fonts c) c ∷ [])) (select (number_at fonts c) ∷ [])
    (quiet_cond (has_cell before c) [] _ refl (quiet_one _ [] (quiet_define rows (number_at fonts c) c) refl))
    (quiet_one _ [] (quiet_select (number_at fonts c)) refl))

quiet_glyphs : (rows : List FontRow) (fonts before here : List Cell) (h : ℤ) (glyphs : List Placed) → list_any is_bop (glyphs_commands rows fonts before here h glyphs) ≡ false
quiet_glyphs rows fonts before here h [] = refl
quiet_glyphs rows fonts before here h (g ∷ gs) =
    both_quiet (right (g.x -ℤ h) ++ font_commands rows fonts before here g.cell) _
    (both_quiet (right (g.x -ℤ h)) _ (quiet_right (g.x -ℤ h)) (quiet_font rows fonts before here g.cell))
    (quiet_one (set_code g.code) (glyphs_commands rows fonts (before ++ g.cell ∷ []) (here ++ g.cell ∷ []) (g.x +ℤ g.advance) gs) (quiet_code g.code) (quiet_glyphs rows fonts (before ++ g.cell ∷ []) (here ++ g.cell ∷ []) (g.x +ℤ g.advance) gs))

quiet_lines : (rows : List FontRow) (fonts before here : List Cell) (v : ℤ) (lines : List PageLine) → list_any is_bop (lines_commands rows fonts before here v lines) ≡ false
quiet_lines rows fonts before here v [] = refl
quiet_lines rows fonts before here v (l ∷ ls) =
    both_quiet (down (l.baseline -ℤ v) ++ Push ∷ glyphs_commands rows fonts before here (pos 0) l.line.glyphs) _
    (both_quiet (down (l.baseline -ℤ v)) _ (quiet_down (l.baseline -ℤ v)) (quiet_glyphs rows fonts before here (pos 0) l.line.glyphs))
    (quiet_lines rows fonts (before ++ cells_of_line l.line) (here ++ cells_of_line l.line) l.baseline ls)

last_bop-page : (rows : List FontRow) (fonts : List Cell) (commands : List Command) (before : List Cell) (number : ℕ) (previous : Option ℕ) (p : Page)
    → last_bop (commands ++ page_commands rows fonts before number previous p) ≡ Some (length (spell_all commands))
unfolding last_bop page_commands
last_bop-page rows fonts commands before number previous p =
    last_bop_from-append 0 None commands _
    ∙ quiet _ (Some (0 + length (spell_all commands))) (lines_commands rows fonts before [] (pos 0) p.lines ++ Eop ∷ [])
    (both_quiet (lines_commands rows fonts before [] (pos 0) p.lines) (Eop ∷ []) (quiet_lines rows fonts before [] (pos 0) p.lines) refl)
    ∙ ap Some (omega arith)

-- a page
knows_page : (before : List Cell) → Knows before [] (fonts_of_page (length (first_uses before)))
knows_page before = record { selected = refl; defined = refl; known = λ c is. absurd (cc) }

page_spelled : (rows : List FontRow) (cells before rest : List Cell) (number : ℕ) (previous : Option ℕ) (p : Page)
    → cells ≡ first_uses (before ++ (cells_of_lines p.lines ++ rest))
    → spell_all (page_commands rows cells before number previous p) ≡ page_bytes rows cells (length (first_uses before)) number previous p
unfolding page_commands page_bytes page_head
page_spelled rows cells before rest number previous p is =
    spell_all-append (Bop (number ∷ replicate 9 0) previous ∷ lines_commands rows cells before [] (pos 0) p.lines) (Eop ∷ [])
    ∙ (λ i. (spell_all-cons (Bop (number ∷ replicate 9 0) previous) (lines_commands rows cells before [] (pos 0) p.lines)
    ∙ ap (λ xs. spell (Bop (number ∷ replicate 9 0) previous) ++ xs)
    (lines_spelled rows cells before [] rest (fonts_of_page (length (first_uses before))) (pos 0) p.lines is (knows_page before))) i
    ++ spell_all-one Eop i)

page_defines : (cells before rest : List Cell) (p : Page) → cells ≡ first_uses (before ++ (cells_of_lines p.lines ++ rest))
    → length (first_uses (before ++ cells_of_lines p.lines)) ≡ defined_after cells (length (first_uses before)) p
unfolding defined_after
page_defines cells before rest p is =
    sym (knows_cells cells before [] rest (fonts_of_page (length (first_uses before))) (cells_of_lines p.lines) is (knows_page before)).defined

-- pages, one after another
first_page : (cells before : List Cell) (p : Page) (ps : List Page) → cells ≡ first_uses (before ++ cells_of_pages (p ∷ ps))
    → cells ≡ first_uses (before ++ (cells_of_lines p.lines ++ cells_of_pages ps))
first_page cells before p ps is = is

later_pages : (cells before : List Cell) (p : Page) (ps : List Page) → cells ≡ first_uses (before ++ cells_of_pages (p ∷ ps))
    → cells ≡ first_uses ((before ++ cells_of_lines p.lines) ++ cells_of_pages ps)
later_pages cells before p ps is = is ∙ ap first_uses (sym (append_assoc before (cells_of_lines p.lines) (cells_of_pages ps)))

place_after : (rows : List FontRow) (cells : List Cell) (commands : List Command) (before : List Cell) (number : ℕ) (p : Page) (ps : List Page)
    → cells ≡ first_uses (before ++ cells_of_pages (p ∷ ps))
    → length (spell_all (commands ++ page_commands rows cells before number (last_bop commands) p))
    ≡ length (spell_all commands) + length (page_bytes rows cells (length (first_uses before)) number (last_bop commands) p)
place_after rows cells commands before number p ps is =
    ap length (spell_all-append commands _ ∙ ap (λ xs. spell_all commands ++ xs) (page_spelled rows cells before (cells_of_pages ps) number (last_bop commands) p is))
    ∙ length-append (spell_all commands) _

pub pages_spelled : (rows : List FontRow) (cells : List Cell) (commands : List Command) (before : List Cell) (number : ℕ) (pages : List Page)
    → cells ≡ first_uses (before ++ cells_of_pages pages)
    → spell_all (with_pages rows cells commands before number pages)
    ≡ spell_all commands ++ pages_bytes rows cells (length (first_uses before)) (length (spell_all commands)) number (last_bop commands) pages
pages_spelled rows cells commands before number [] is = sym (append-nil (spell_all commands))
pages_spelled rows cells commands before number (p ∷ ps) is =
    pages_spelled rows cells (commands ++ page_commands rows cells before number (last_bop commands) p) (before ++ cells_of_lines p.lines) (number + 1) ps (later_pages cells before p ps is)
    ∙ (λ i. (spell_all-append commands (page_commands rows cells before number (last_bop commands) p)
    ∙ ap (λ xs. spell_all commands ++ xs) (page_spelled rows cells before (cells_of_pages ps) number (last_bop commands) p is)) i
    ++ pages_bytes rows cells (page_defines cells before (cells_of_pages ps) p is i) (place_after rows cells commands before number p ps is i) (number + 1)
    (last_bop-page rows cells commands before number (last_bop commands) p i) ps)
    ∙ append_assoc (spell_all commands) _ _

pub last_page-found : (rows : List FontRow) (cells : List Cell) (commands : List Command) (before : List Cell) (number : ℕ) (pages : List Page)
    → cells ≡ first_uses (before ++ cells_of_pages pages)
    → last_bop (with_pages rows cells commands before number pages)
    ≡ last_page rows cells (length (first_uses before)) (length (spell_all commands)) number (last_bop commands) pages
last_page-found rows cells commands before number [] is = refl
last_page-found rows cells commands before number (p ∷ ps) is =
    last_page-found rows cells (commands ++ page_commands rows cells before number (last_bop commands) p) (before ++ cells_of_lines p.lines) (number + 1) ps (later_pages cells before p ps is)
    ∙ (λ i. last_page rows cells (page_defines cells before (cells_of_pages ps) p is i) (place_after rows cells commands before number p ps is i) (number + 1)
    (last_bop-page rows cells commands before number (last_bop commands) p i) ps)

-- the file
pub body_spelled : (rows : List FontRow) (pages : List Page)
    → spell_all (body rows (first_uses (cells_of_pages pages)) pages) ≡ paged_bytes rows (first_uses (cells_of_pages pages)) pages
unfolding body paged_bytes first_uses last_bop
body_spelled rows pages = pages_spelled rows (first_uses (cells_of_pages pages)) start [] 1 pages refl

pub body_last : (rows : List FontRow) (pages : List Page)
    → last_bop (body rows (first_uses (cells_of_pages pages)) pages)
    ≡ last_page rows (first_uses (cells_of_pages pages)) 0 (length (spell_all start)) 1 None pages
unfolding body first_uses last_bop
body_last rows pages = last_page-found rows (first_uses (cells_of_pages pages)) start [] 1 pages refl

pub unfilled_spelled : (rows : List FontRow) (pages : List Page)
    → spell_all (unfilled rows (first_uses (cells_of_pages pages)) pages) ≡ unfilled_bytes rows (first_uses (cells_of_pages pages)) pages
unfolding unfilled unfilled_bytes post_bytes
unfilled_spelled rows pages =
    spell_all-append (body rows (first_uses (cells_of_pages pages)) pages) _
    ∙ (λ i. body_spelled rows pages i
    ++ (spell_all-cons (Post (last_bop (body rows (first_uses (cells_of_pages pages)) pages)) (summary_of pages)) (definitions_from rows 0 (first_uses (cells_of_pages pages)))
    ∙ ap (λ l. spell (Post l (summary_of pages)) ++ spell_all (definitions_from rows 0 (first_uses (cells_of_pages pages)))) (body_last rows pages)) i)
    ∙ sym (append_assoc (paged_bytes rows (first_uses (cells_of_pages pages)) pages) _ _)

pub file_spelled : (rows : List FontRow) (pages : List Page) → file_bytes rows (first_uses (cells_of_pages pages)) pages ≡ dvi rows pages
unfolding dvi document file_bytes end_bytes
file_spelled rows pages =
    sym (spell_all-append (unfilled rows (first_uses (cells_of_pages pages)) pages) _
    ∙ (λ i. unfilled_spelled rows pages i
    ++ (spell_all-one (PostPost (length (spell_all (body rows (first_uses (cells_of_pages pages)) pages))) (filling (length (spell_all (unfilled rows (first_uses (cells_of_pages pages)) pages)))))
    ∙ (λ j. spell (PostPost (length (body_spelled rows pages j)) (filling (length (unfilled_spelled rows pages j)))))) i))
