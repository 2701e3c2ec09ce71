-- One line, from what its steps give.
--     set-as                 the line that is packed
--     ok-line, bad-line      what its answer is
--     ends                   where a line ends is a length
use Rattle.std.proofs.Common.{◌≡◌, ℕ, ◌-◌, ◌<◌, ◌^◌, ap, sym, ◌∙◌, arith, Bool, true, false, cond, List, [], ◌∷◌, length, Some, None, Ok, Err, ℤ, pos, negsuc, ◌+ℤ◌, ◌-ℤ◌, ◌≤ℤ◌, ◌<ℤ◌}
use Rattle.std.proofs.lemmas.Int.{ints}
use Rattle.std.specs.Prelude.{int_lt, is_some, min, slice_index_or, unsigned_abs}
use Rattle.std.specs.Int.{int_max}
use Rattle.font_stock.specs.declared.font.Font.{Font}
use Rattle.micro_num.specs.declared.params.Params.{Params}
use Rattle.micro_num.specs.declared.shape.ShapeLine.{ShapeLine}
use Rattle.micro_num.specs.Shape.{IsShapeLine, hangs, hung_line, line_at}
use Rattle.hlist_build.specs.declared.fault.ParFault.TheVariants.{OutOfRange}
use Rattle.break_rule.specs.Fits.{Rule}
use Rattle.break_rule.specs.Lines.{line_pieces}
use Rattle.break_rule.specs.declared.line.From.{From}
use Rattle.break_rule.specs.declared.line.LineIn.{LineIn}
use Rattle.instance_core.specs.declared.page.Packed.{Packed}
use Rattle.hpack_two.specs.Lines.{first_out, glyphs_of, set_line}
use Rattle.para_workers.specs.Lengths.{HasLengths}
use Rattle.para_workers.specs.SetPar.{is_refused, line_between, line_in_range, set_line_between}

pub line-is : (rule : Rule) (from : From) (to : ℕ) (line : LineIn) → line.pieces ≡ line_pieces rule.params rule.stock rule.items from to
    → line.expand ≡ int_lt (pos 0) rule.params.pdfadjustspacing → line ≡ line_between rule from to
line-is rule from to line pieces expand = λ i. record { pieces = pieces i; expand = expand i }

pub at-is : (rule : Rule) (number : ℕ) (params : Params) (shape : List ShapeLine) (at : ShapeLine) → params ≡ rule.params → shape ≡ rule.shape
    → at ≡ line_at params shape number → at ≡ line_at rule.params rule.shape number
at-is rule number params shape at params_are shape_is is =
    is ∙ ap (λ (p : Params). line_at p shape number) params_are ∙ ap (λ (s : List ShapeLine). line_at rule.params s number) shape_is

pub set-as : (rule : Rule) (number : ℕ) (from : From) (to : ℕ) (stock : List Font) (line : LineIn) (at : ShapeLine) (width indent : ℤ)
    → rule.stock ≡ stock → line ≡ line_between rule from to → at ≡ line_at rule.params rule.shape number → width ≡ at.width → indent ≡ at.indent
    → set_line stock line width indent ≡ set_line_between rule number from to
unfolding set_line_between
set-as rule number from to stock line at width indent own line_is at_is width_is indent_is =
    ap (λ (s : List Font). set_line s line width indent) (sym own)
    ∙ ap (λ (l : LineIn). set_line rule.stock l width indent) line_is
    ∙ ap (λ (w : ℤ). set_line rule.stock (line_between rule from to) w indent) (width_is ∙ ap (λ (a : ShapeLine). a.width) at_is)
    ∙ ap (λ (x : ℤ). set_line rule.stock (line_between rule from to) (line_at rule.params rule.shape number).width x) (indent_is ∙ ap (λ (a : ShapeLine). a.indent) at_is)

pub glyphs-are : (rule : Rule) (number : ℕ) (from : From) (to : ℕ) (stock : List Font) (line : LineIn) (width indent : ℤ)
    → set_line stock line width indent ≡ set_line_between rule number from to
    → glyphs_of stock line width indent ≡ (set_line_between rule number from to).glyphs
unfolding glyphs_of
glyphs-are rule number from to stock line width indent same = ap (λ (l : Packed). l.glyphs) same

pub ok-line : (rule : Rule) (number : ℕ) (from : From) (to : ℕ) (stock : List Font) (line : LineIn) (width indent : ℤ) (packed : Packed)
    → set_line stock line width indent ≡ set_line_between rule number from to → packed ≡ set_line stock line width indent
    → first_out (glyphs_of stock line width indent) ≡ None → Ok packed ≡ line_in_range rule number from to
unfolding line_in_range
ok-line rule number from to stock line width indent packed same is none =
    let set = set_line_between rule number from to in
    let fine : is_refused set ≡ false = ap (λ glyphs. is_some (first_out glyphs)) (sym (glyphs-are rule number from to stock line width indent same)) ∙ ap (λ o. is_some o) none in
    ap (λ l. Ok l) (is ∙ same) ∙ sym (ap (λ b. cond b (Err (OutOfRange number)) (Ok set)) fine)

pub bad-line : (rule : Rule) (number : ℕ) (from : From) (to : ℕ) (stock : List Font) (line : LineIn) (width indent : ℤ) (glyph : ℕ)
    → set_line stock line width indent ≡ set_line_between rule number from to
    → first_out (glyphs_of stock line width indent) ≡ Some glyph → Err (OutOfRange number) ≡ line_in_range rule number from to
unfolding line_in_range
bad-line rule number from to stock line width indent glyph same out =
    let set = set_line_between rule number from to in
    let refused : is_refused set ≡ true = ap (λ glyphs. is_some (first_out glyphs)) (sym (glyphs-are rule number from to stock line width indent same)) ∙ ap (λ o. is_some o) out in
    sym (ap (λ b. cond b (Err (OutOfRange number)) (Ok set)) refused)

-- ---- where a line ends

pub record IsEnd (end : ℤ) : Type 0 where
  pub low : negsuc 2147483647 ≤ℤ end
  pub high : end <ℤ pos 2147483648

short : (indent width : ℤ) → unsigned_abs indent < 2 ^ 30 → unsigned_abs width < 2 ^ 30 → IsEnd (indent +ℤ width)
short indent width a b = record { low = omega (arith, ints, a, b); high = omega (arith, ints, a, b) }

hung : (hsize hangindent : ℤ) → unsigned_abs hsize < 2 ^ 30 → unsigned_abs hangindent < 2 ^ 30
    → IsEnd (int_max hangindent (pos 0) +ℤ (hsize -ℤ pos (unsigned_abs hangindent)))
hung hsize (negsuc n) a b = record { low = omega (arith, ints, a, b); high = omega (arith, ints, a, b) }
hung hsize (pos n) a b = either (int_lt (pos 0) (pos n))
  where
    either : (above : Bool) → IsEnd (cond above (pos n) (pos 0) +ℤ (hsize -ℤ pos n))
    either true = record { low = omega (arith, ints, a, b); high = omega (arith, ints, a, b) }
    either false = record { low = omega (arith, ints, a, b); high = omega (arith, ints, a, b) }

hung-ends : (params : Params) (number : ℕ) → unsigned_abs params.hsize < 2 ^ 30 → unsigned_abs params.hangindent < 2 ^ 30
    → IsEnd ((hung_line params number).indent +ℤ (hung_line params number).width)
unfolding hung_line
hung-ends params number a b = either (hangs params number)
  where
    chosen : Bool → ShapeLine
    chosen b =
        cond b (record { indent = int_max params.hangindent (pos 0); width = params.hsize -ℤ pos (unsigned_abs params.hangindent) })
        (record { indent = pos 0; width = params.hsize })

    either : (does : Bool) → IsEnd ((chosen does).indent +ℤ (chosen does).width)
    either true = hung params.hsize params.hangindent a b
    either false = record { low = omega (arith, ints, a); high = omega (arith, ints, a) }

pub ends : (params : Params) (lines : List ShapeLine) (number : ℕ) → HasLengths params lines
    → IsEnd ((line_at params lines number).indent +ℤ (line_at params lines number).width)
unfolding line_at
ends params [] number lengths = hung-ends params number lengths.hsize lengths.hangindent
ends params (first ∷ lines) number lengths =
    let place : ℕ = min number (length (first ∷ lines)) - 1 in
    let own : IsShapeLine (slice_index_or (first ∷ lines) place first) = lengths.shape place first (omega arith) in
    short (slice_index_or (first ∷ lines) place first).indent (slice_index_or (first ∷ lines) place first).width own.indent own.width
