-- The fit of a line is that of what its ends keep.
use Rattle.std.proofs.Common.{◌≡◌, ℕ, ◌^◌, rules, ap, ◌∙◌, arith, w32, w64, FitsSigned, to_z, of_z}
use Rattle.std.specs.Prelude.{ℤ, Bool, Option}
use Rattle.std.proofs.lemmas.Int.{to_z-of_z}
use Rattle.micro_num.specs.declared.params.Params.{Params}
use Rattle.font_stock.specs.declared.expand.Expand.{Expand}
use Rattle.micro_num.specs.Shape.{line_at}
use Rattle.break_rule.specs.declared.line.From.{From}
use Rattle.break_rule.specs.declared.line.LineFit.{LineFit}
use Rattle.break_rule.specs.declared.sums.Sums.{Sums}
use Rattle.break_rule.specs.Adding.{plus}
use Rattle.break_rule.specs.Lines.{measure_sums}
use Rattle.break_rule.specs.Fits.{Rule, fit_of, fit_of_sums, hangs_in}
use Rattle.break_rule.specs.Made.{IsMade, Keeping}
use Rattle.break_rule.proofs.Totals.{plus-within, within-more}
use Rattle.break_rule.proofs.rule.BreakRule.line.Goals as goal

line-is : (rule now : Rule) (kept : Keeping) → IsMade rule kept → rule ≡ now → (from : From) (to number : ℕ) (width : ℤ) (sums total : Sums)
    (hang : ℤ) (fit : LineFit) → width ≡ (line_at now.params now.shape number).width → sums ≡ measure_sums now.stock now.items from to
    → total ≡ plus sums kept.margins → hang ≡ hangs_in now.params now.stock now.items from to
    → fit ≡ fit_of_sums rule.params rule.emergency kept.expand width total hang → fit ≡ fit_of now from to number
unfolding fit_of
line-is rule now kept made same from to number width sums total hang fit w s t h f = cc (made.expand, made.margins)

uncast : (params : Params) (emergency : Bool) (expand : Option Expand) (width : ℤ) (total : Sums) (hang : ℤ)
    → FitsSigned w32 width → FitsSigned w64 hang
    → fit_of_sums params emergency expand (to_z w32 (of_z w32 width)) total (to_z w64 (of_z w64 hang))
    ≡ fit_of_sums params emergency expand width total hang
uncast params emergency expand width total hang narrow small =
    ap (λ (w : ℤ). fit_of_sums params emergency expand w total (to_z w64 (of_z w64 hang))) (to_z-of_z w32 width narrow)
    ∙ ap (λ (h : ℤ). fit_of_sums params emergency expand width total h) (to_z-of_z w64 hang small)

pub fit-requires-clause-sums : goal.fit-requires-clause-sums
fit-requires-clause-sums c =
    rw c.plus-sums.ensures (within-more 196610 (2 ^ 20) _ (omega arith)
    (plus-within 196608 2 c.sums.result c.self.inside.margins c.sums.ensures.small c.self.invariant.margins_small))

pub returns : goal.returns
returns c =
    line-is _ c.args.self.now _ c.self.invariant c.self.view_is c.args.from c.args.to c.args.number _ _ _ _ _
    c.width-width.ensures c.sums.ensures.exact c.plus-sums.ensures c.counted_hang-hang.ensures.exact
    (c.fit.ensures ∙ uncast c.self.inside.params.now c.self.inside.emergency c.self.inside.expand c.width-width.result c.plus-sums.result
    c.counted_hang-hang.result (search rules) (search rules))
