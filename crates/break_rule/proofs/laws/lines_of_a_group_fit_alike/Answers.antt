-- The lines of a group fit alike.
use Rattle.std.proofs.Common.{◌≡◌, ℕ, ap, sym, ◌∙◌}
use Rattle.micro_num.specs.declared.shape.ShapeLine.{ShapeLine}
use Rattle.micro_num.specs.Shape.{line_at, group_of}
use Rattle.micro_num.proofs.Shapes.{line_at-group}
use Rattle.break_rule.specs.declared.line.From.{From}
use Rattle.break_rule.specs.Fits.{Rule, fit_of, fit_of_sums, shared_expansion, with_margins, hangs_in}
use Rattle.break_rule.specs.Lines.{measure_sums}
use Rattle.break_rule.proofs.laws.lines_of_a_group_fit_alike.Goals as goal

alike : (rule : Rule) (number other : ℕ) → group_of rule.params rule.shape number ≡ group_of rule.params rule.shape other
    → line_at rule.params rule.shape number ≡ line_at rule.params rule.shape other
alike rule number other same =
    sym (line_at-group rule.params rule.shape number)
    ∙ ap (line_at rule.params rule.shape) same
    ∙ line_at-group rule.params rule.shape other

fits : (rule : Rule) (from : From) (to number other : ℕ) → line_at rule.params rule.shape number ≡ line_at rule.params rule.shape other
    → fit_of rule from to number ≡ fit_of rule from to other
unfolding fit_of
fits rule from to number other same =
    ap (λ (line : ShapeLine). fit_of_sums rule.params rule.emergency (shared_expansion rule.stock rule.items) line.width
    (with_margins rule.params (measure_sums rule.stock rule.items from to))
    (hangs_in rule.params rule.stock rule.items from to)) same

pub returns : goal.returns
returns c = λ rule from to number other same. fits rule from to number other (alike rule number other same)
