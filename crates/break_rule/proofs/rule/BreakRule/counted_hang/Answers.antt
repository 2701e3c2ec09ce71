-- Both hangs count at level 2.
use Rattle.std.proofs.Common.{◌≡◌, ℕ, ◌≤◌, ◌^◌, ap, sym, ◌∙◌, arith, List, w64, FitsSigned, to_z, of_z}
use Rattle.std.specs.Prelude.{ℤ, pos, ◌+ℤ◌, int_le, true, unsigned_abs}
use Rattle.std.proofs.lemmas.Int.{ints, to_z-of_z, fits_signed_from_abs}
use Rattle.micro_num.specs.declared.params.Params.{Params}
use Rattle.font_stock.specs.declared.font.Font.{Font}
use Rattle.hlist.specs.declared.item.Item.{Item}
use Rattle.break_rule.specs.declared.line.From.{From}
use Rattle.break_rule.specs.Lines.{left_hang, right_hang}
use Rattle.break_rule.specs.Fits.{Rule, hangs_in}
use Rattle.break_rule.proofs.rule.BreakRule.counted_hang.Goals as goal

both-back : (l r : ℤ) → unsigned_abs l ≤ 2 ^ 31 → unsigned_abs r ≤ 2 ^ 31
    → to_z w64 (of_z w64 (to_z w64 (of_z w64 l) +ℤ to_z w64 (of_z w64 r))) ≡ l +ℤ r
both-back l r left right =
    let first : FitsSigned w64 l = fits_signed_from_abs w64 l (omega (arith, ints, left)) in
    let second : FitsSigned w64 r = fits_signed_from_abs w64 r (omega (arith, ints, right)) in
    let both : FitsSigned w64 (l +ℤ r) = fits_signed_from_abs w64 (l +ℤ r) (omega (arith, ints, left, right)) in
    ap (λ (a : ℤ). to_z w64 (of_z w64 (a +ℤ to_z w64 (of_z w64 r)))) (to_z-of_z w64 l first)
    ∙ ap (λ (b : ℤ). to_z w64 (of_z w64 (l +ℤ b))) (to_z-of_z w64 r second)
    ∙ to_z-of_z w64 (l +ℤ r) both

counted : (params : Params) (stock : List Font) (items : List Item) (from : From) (to : ℕ) (l r : ℤ)
    → int_le (pos 2) params.pdfprotrudechars ≡ true → l ≡ left_hang stock items from to → r ≡ right_hang stock items from to
    → l +ℤ r ≡ hangs_in params stock items from to
counted params stock items from to l r enough left right =
    rw enough (ap (λ (a : ℤ). a +ℤ r) left ∙ ap (λ (b : ℤ). left_hang stock items from to +ℤ b) right)

pub returns-then-do_hangs_count-clause-exact : goal.returns-then-do_hangs_count-clause-exact
returns-then-do_hangs_count-clause-exact c =
    let rule = c.args.self.now in
    let enough : int_le (pos 2) rule.params.pdfprotrudechars ≡ true
    = ap (λ (r : Rule). int_le (pos 2) r.params.pdfprotrudechars) (sym c.self.view_is)
    ∙ sym c.do_hangs_count.ensures ∙ c.if-do_hangs_count.true in
    both-back c.hangs-hangs.result.left c.hangs-hangs.result.right c.hangs-hangs.ensures.left_small c.hangs-hangs.ensures.right_small
    ∙ counted rule.params rule.stock rule.items c.args.from c.args.to _ _ enough c.hangs-hangs.ensures.left c.hangs-hangs.ensures.right
