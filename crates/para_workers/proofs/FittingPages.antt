-- Set lines and their pages fit.
--     line-over      a line that is packed, and in range
--     page-over      a page of such lines that isn't past its bounds
use Rattle.std.proofs.Common.{◌≡◌, ℕ, ◌+◌, refl, sym, subst, arith, Bool, true, false, cond, not, List, [], ◌∷◌, inl, inr, Option, Some, None, Result, Ok, Err, ℤ, ◌+ℤ◌}
use Rattle.std.specs.Prelude.{All, IfOk}
use Rattle.std.specs.List.{position_from}
use Rattle.std.proofs.lemmas.Int.{ints}
use Rattle.std.proofs.lemmas.List.Elements.{All-cons, All-head, All-nil, All-tail}
use Rattle.micro_num.specs.declared.params.Params.{Params}
use Rattle.font_stock.specs.declared.font.Font.{Font}
use Rattle.break_rule.specs.declared.line.LineIn.{LineIn}
use Rattle.instance_core.specs.declared.page.Packed.{Packed}
use Rattle.instance_core.specs.declared.page.Page.{Page}
use Rattle.instance_core.specs.declared.page.PageLine.{PageLine}
use Rattle.instance_core.specs.declared.page.Placed.{Placed}
use Rattle.dvi_write.specs.Stacking.{first_past, is_stackable, is_place, lowest, on_baseline, page_of, stacked}
use Rattle.dvi_write.specs.Writable.{IsPlace}
use Rattle.dvi_write.proofs.StackedLines.{both_true, place_fits}
use Rattle.hpack_two.specs.Lines.{first_out, glyphs_of, is_out, set_line, setting_of, stands}
use Rattle.hpack_two.specs.Over.{IsOver}
use Rattle.hpack_two.specs.Widths.{added}
use Rattle.para_workers.specs.Fitting.{IsCellOver, IsGlyphOver, IsLineOver, IsPageOver, IsSetOver}
use Rattle.hlist_build.specs.declared.fault.ParFault.{ParFault}
use Rattle.para_workers.specs.SetPar.{out_of_range_or, stacked_in_range}
use Rattle.para_workers.proofs.LineTurns.{Gives}
use Rattle.para_workers.proofs.ChosenCells.{cells-over, ratio-small}

place-is : (z : ℤ) → is_place z ≡ true → IsPlace z
place-is z is = let small = place_fits z is in record { low = omega (arith, ints, small); high = omega (arith, ints, small) }

-- none of some things is the first to meet a test
none-first : {X : Type 0} (test : X → Bool) (start : ℕ) (x : X) (xs : List X) → position_from test start (x ∷ xs) ≡ None
    → (test x ≡ false) × (position_from test (start + 1) xs ≡ None)
none-first test start x xs none = turn (test x) (position_from test (start + 1) xs) none
  where
    turn : (b : Bool) (rest : Option ℕ) → cond b (Some start) rest ≡ None → (b ≡ false) × (rest ≡ None)
    turn true rest is = absurd (cc)
    turn false rest is = (refl, is)

not-false : (b : Bool) → not b ≡ false → b ≡ true
not-false true is = refl
not-false false is = absurd (cc)

glyphs-over : (stock : List Font) (start : ℕ) (glyphs : List Placed) → position_from is_out start glyphs ≡ None
    → All (λ (g : Placed). IsCellOver stock g.cell) glyphs → All (IsGlyphOver stock) glyphs
glyphs-over stock start [] none cells = All-nil (IsGlyphOver stock)
glyphs-over stock start (g ∷ gs) none cells =
    let first = none-first is_out start g gs none in
    let edges = both_true (is_place g.x) (is_place (g.x +ℤ g.advance)) (not-false (stands g.x g.advance) first.0) in
    All-cons (IsGlyphOver stock) g gs
    (record {
      left = place-is g.x edges.0;
      right = place-is (g.x +ℤ g.advance) edges.1;
      cell = All-head (λ (x : Placed). IsCellOver stock x.cell) g gs cells;
    })
    (glyphs-over stock (start + 1) gs first.1 (All-tail (λ (x : Placed). IsCellOver stock x.cell) g gs cells))

pub line-over : (stock : List Font) (line : LineIn) (width indent : ℤ) (packed : Packed) → IsOver stock line.pieces
    → packed ≡ set_line stock line width indent → first_out (glyphs_of stock line width indent) ≡ None → IsSetOver stock packed
unfolding glyphs_of setting_of
line-over stock line width indent packed over is none =
    let few = ratio-small line.expand _ (added stock line.pieces) in
    subst (IsSetOver stock) (sym is)
    (glyphs-over stock 0 (glyphs_of stock line width indent) none (cells-over (setting_of stock line width indent) [] line.pieces few over.each))

lines-over : (stock : List Font) (params : Params) (above : Option PageLine) (start : ℕ) (lines : List Packed)
    → position_from (λ placed. not (is_stackable placed)) start (stacked params above lines) ≡ None → All (IsSetOver stock) lines
    → All (IsLineOver stock) (stacked params above lines)
lines-over stock params above start [] none set = All-nil (IsLineOver stock)
lines-over stock params above start (line ∷ lines) none set =
    let placed : PageLine = on_baseline params above line in
    let rest : List PageLine = stacked params (Some placed) lines in
    let first = none-first (λ p. not (is_stackable p)) start placed rest none in
    let fits = both_true (is_place placed.baseline) (is_place (lowest placed)) (not-false (is_stackable placed) first.0) in
    All-cons (IsLineOver stock) placed rest
    (record { baseline = place-is placed.baseline fits.0; glyphs = All-head (IsSetOver stock) line lines set })
    (lines-over stock params (Some placed) (start + 1) lines first.1 (All-tail (IsSetOver stock) line lines set))

pub page-over : (stock : List Font) (params : Params) (lines : List Packed) (page : Page) → page ≡ page_of params lines
    → first_past params lines ≡ None → All (IsSetOver stock) lines → IsPageOver stock page
page-over stock params lines page is none set =
    subst (IsPageOver stock) (sym is) (lines-over stock params None 1 lines none set)

-- an answer of the lines
pub page-fits : (stock : List Font) (params : Params) (lines : List Packed) (result : Result Page ParFault)
    → Gives Page result (stacked_in_range params lines) → All (IsSetOver stock) lines → IfOk result (IsPageOver stock)
unfolding stacked_in_range
page-fits stock params lines (Err fault) answer set = tt
page-fits stock params lines (Ok page) (inr none) set = absurd (cc)
page-fits stock params lines (Ok page) (inl is) set = either (first_past params lines) refl is
  where
    either : (first : Option ℕ) → first_past params lines ≡ first → Ok page ≡ out_of_range_or first (Ok (page_of params lines)) → IsPageOver stock page
    either None known is = page-over stock params lines page (cc) known set
    either (Some line) known is = absurd (cc)
