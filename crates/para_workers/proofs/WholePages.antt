-- From the lines of a paragraph to its page.
--     lines-are              the lines of the pass that is taken
--     page-cells             the cells on a page are those on its lines
--     page-is                lines of which none is refused give the page of all
use Rattle.std.proofs.Common.{◌≡◌, ℕ, inl, inr, refl, ap, sym, ◌∙◌, false, flat_map, List, [], ◌∷◌, ◌++◌, Option, Some, None, Result, Ok, Err}
use Rattle.font_stock.specs.declared.font.Font.{Font}
use Rattle.hlist_hyph.specs.Hyphenated.{Places}
use Rattle.micro_num.specs.declared.paragraph.Par.{Par}
use Rattle.micro_num.specs.declared.params.Params.{Params}
use Rattle.micro_num.specs.declared.tables.Tables.{Tables}
use Rattle.hlist_build.specs.declared.fault.ParFault.{ParFault}
use Rattle.hlist_build.specs.declared.fault.ParFault.TheVariants.{OutOfRange, NoMemory}
use Rattle.hlist.specs.declared.item.HList.{HList}
use Rattle.hlist.specs.declared.item.Item.{Item}
use Rattle.hlist_build.specs.Paragraph.{list_of}
use Rattle.break_rule.specs.declared.line.From.TheVariants.{Start}
use Rattle.instance_core.specs.declared.cell.Cell.{Cell}
use Rattle.instance_core.specs.declared.font.BaseFont.{BaseFont}
use Rattle.instance_core.specs.declared.page.Packed.{Packed}
use Rattle.instance_core.specs.declared.page.Page.{Page}
use Rattle.instance_core.specs.declared.page.PageLine.{PageLine}
use Rattle.dvi_write.specs.Stacking.{first_past, on_baseline, page_of, stacked}
use Rattle.hpack_two.specs.Answers.{touched_with}
use Rattle.hpack_two.specs.Lines.{stepped}
use Rattle.paragraph_breaks.specs.declared.broken.Broken.{Broken}
use Rattle.paragraph_breaks.specs.Outcome.{IsBroken, rule_of}
use Rattle.paragraph_breaks.specs.Passes.{Paragraph, rule_over}
use Rattle.para_workers.specs.SetPar.{first_refused, lines_in_range, lines_of, lines_of_list, lines_of_par, lines_taken, out_of_range_or, page_by, paragraph_of, set_lines, set_list, set_par, stacked_in_range}
use Rattle.para_workers.specs.Touched.{TouchedByPage, cells_of_page, cells_on}
use Rattle.para_workers.proofs.AskedCells.{all-asked}
use Rattle.para_workers.proofs.LineTurns.{Gives}

pub lines-are : (p : Paragraph) (b : Broken) → IsBroken p b → set_lines (rule_of p b) 1 Start b.breaks ≡ lines_of p
unfolding lines_of
lines-are p b is =
    ap (λ (items : List Item). set_lines (rule_over items p.params p.shape p.stock false) 1 Start b.breaks) is.exact.list
    ∙ sym (ap (lines_taken p) is.exact.taken)

cells-stacked : (params : Params) (above : Option PageLine) (lines : List Packed)
    → flat_map (λ (placed : PageLine). stepped placed.line.glyphs) (stacked params above lines) ≡ flat_map (λ (line : Packed). stepped line.glyphs) lines
cells-stacked params above [] = refl
cells-stacked params above (line ∷ lines) =
    ap (λ cells. stepped line.glyphs ++ cells) (cells-stacked params (Some (on_baseline params above line)) lines)

pub page-cells : (params : Params) (lines : List Packed) → cells_of_page (page_of params lines) ≡ cells_on lines
unfolding cells_of_page cells_on
page-cells params lines = cells-stacked params None lines

-- lines that are in range are all there are
pub only-good : (lines whole : List Packed) → Gives (List Packed) (Ok lines) (lines_in_range whole)
    → (lines ≡ whole) × (first_refused whole ≡ None)
unfolding lines_in_range
only-good lines whole (inr is) = absurd (cc)
only-good lines whole (inl is) = either (first_refused whole) refl is
  where
    either : (first : Option ℕ) → first_refused whole ≡ first → Ok lines ≡ out_of_range_or first (Ok whole) → (lines ≡ whole) × (first_refused whole ≡ None)
    either None known is = (cc, known)
    either (Some line) known is = absurd (cc)

pub only-bad : (params : Params) (whole : List Packed) (fault : ParFault)
    → Gives (List Packed) (Err fault) (lines_in_range whole)
    → Gives Page (Err fault) (page_by params whole)
unfolding lines_in_range page_by
only-bad params whole fault (inr is) = inr (let same : fault ≡ NoMemory = cc in ap (λ e. Err e) same)
only-bad params whole fault (inl is) = either (first_refused whole) refl is
  where
    either : (first : Option ℕ) → first_refused whole ≡ first → Err fault ≡ out_of_range_or first (Ok whole)
        → Gives Page (Err fault) (out_of_range_or (first_refused whole) (stacked_in_range params whole))
    either None known is = absurd (cc)
    either (Some line) known is =
        let same : fault ≡ OutOfRange line = cc in
        inl (ap (λ e. Err e) same ∙ sym (ap (λ o. out_of_range_or o (stacked_in_range params whole)) known))

-- lines of which none is refused give the page of all
pub page-is : (params : Params) (whole : List Packed) → first_refused whole ≡ None → stacked_in_range params whole ≡ page_by params whole
unfolding page_by
page-is params whole good = sym (ap (λ o. out_of_range_or o (stacked_in_range params whole)) good)

-- a page that is made is that of all its lines
pub only-page : (params : Params) (lines : List Packed) (page : Page)
    → Gives Page (Ok page) (stacked_in_range params lines) → page ≡ page_of params lines
unfolding stacked_in_range
only-page params lines page (inr is) = absurd (cc)
only-page params lines page (inl is) = either (first_past params lines) is
  where
    either : (first : Option ℕ) → Ok page ≡ out_of_range_or first (Ok (page_of params lines)) → page ≡ page_of params lines
    either None is = cc
    either (Some line) is = absurd (cc)

pub page-good : (params : Params) (lines : List Packed) (page : Page) → page ≡ page_of params lines → first_past params lines ≡ None
    → Ok page ≡ stacked_in_range params lines
unfolding stacked_in_range
page-good params lines page is none = ap (λ p. Ok p) is ∙ sym (ap (λ o. out_of_range_or o (Ok (page_of params lines))) none)

pub page-past : (params : Params) (lines : List Packed) (line : ℕ) → first_past params lines ≡ Some line
    → Err (OutOfRange line) ≡ stacked_in_range params lines
unfolding stacked_in_range
page-past params lines line past = sym (ap (λ o. out_of_range_or o (Ok (page_of params lines))) past)

pub page-answer : (params : Params) (lines whole all : List Packed) (result : Result Page ParFault) → Gives Page result (stacked_in_range params lines)
    → lines ≡ whole → first_refused whole ≡ None → whole ≡ all → Gives Page result (page_by params all)
page-answer params lines whole all result (inl is) same good whole_is =
    inl (is ∙ ap (stacked_in_range params) same ∙ page-is params whole good ∙ ap (page_by params) whole_is)
page-answer params lines whole all result (inr none) same good whole_is = inr none

pub page-touched : (params : Params) (lines all : List Packed) (result : Result Page ParFault) (bases : List BaseFont) (before after : List Cell)
    → Gives Page result (stacked_in_range params lines) → lines ≡ all → after ≡ touched_with bases (cells_on lines) before
    → TouchedByPage all bases before after result
page-touched params lines all (Ok page) bases before after answer same is =
    let cells : cells_of_page page ≡ cells_on lines = ap cells_of_page (only-page params lines page answer) ∙ page-cells params lines in
    is ∙ ap (λ (own : List Cell). touched_with bases own before) (sym cells)
page-touched params lines all (Err fault) bases before after answer same is =
    all-asked (cells_on all) bases before after (is ∙ ap (λ (own : List Packed). touched_with bases (cells_on own) before) same)

-- ---- a paragraph and its list

pub list-is : (list : HList) (wanted : Result HList ParFault) → Gives HList (Ok list) wanted → wanted ≡ Ok list
list-is list wanted (inl is) = sym is
list-is list wanted (inr none) = absurd (cc)

pub page-of-list : (par : Par) (tables : Tables) (places : Places) (stock : List Font) (list : HList) (result : Result Page ParFault)
    → list_of par tables stock ≡ Ok list → Gives Page result (page_by par.params (lines_of (paragraph_of par tables places stock list.items)))
    → Gives Page result (set_par par tables places stock)
unfolding set_par
page-of-list par tables places stock list result known (inl is) = inl (is ∙ sym (ap (set_list par tables places stock) known))
page-of-list par tables places stock list result known (inr none) = inr none

pub lines-of-list : (par : Par) (tables : Tables) (places : Places) (stock : List Font) (list : HList)
    → list_of par tables stock ≡ Ok list → lines_of (paragraph_of par tables places stock list.items) ≡ lines_of_par par tables places stock
unfolding lines_of_par
lines-of-list par tables places stock list known = sym (ap (lines_of_list par tables places stock) known)

pub fault-of-list : (par : Par) (tables : Tables) (places : Places) (stock : List Font) (fault : ParFault)
    → Gives HList (Err fault) (list_of par tables stock) → Gives Page (Err fault) (set_par par tables places stock)
unfolding set_par
fault-of-list par tables places stock fault (inl is) = inl (ap (set_list par tables places stock) is)
fault-of-list par tables places stock fault (inr none) = inr (let same : fault ≡ NoMemory = cc in ap (λ e. Err e) same)
