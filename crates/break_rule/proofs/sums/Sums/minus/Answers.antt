-- Field by field, as 64 bits hold them.
use Rattle.std.proofs.Common.{◌≡◌, rules, ap, ◌∙◌, w64, FitsSigned, to_z, of_z}
use Rattle.std.specs.Prelude.{ℤ, ◌-ℤ◌}
use Rattle.std.proofs.lemmas.Int.{to_z-of_z}
use Rattle.break_rule.proofs.Totals.{same-sums, minus-is}
use Rattle.break_rule.proofs.sums.Sums.minus.Goals as goal

back : (z x y : ℤ) → FitsSigned w64 z → FitsSigned w64 x → FitsSigned w64 y
    → z ≡ to_z w64 (of_z w64 x) -ℤ to_z w64 (of_z w64 y) → to_z w64 (of_z w64 z) ≡ x -ℤ y
back z x y fits first second is =
    to_z-of_z w64 z fits
    ∙ is
    ∙ ap (λ (a : ℤ). a -ℤ to_z w64 (of_z w64 y)) (to_z-of_z w64 x first)
    ∙ ap (λ (b : ℤ). x -ℤ b) (to_z-of_z w64 y second)

pub returns : goal.returns
returns c =
    same-sums
    (back c.less.result c.args.self.now.width c.args.other.now.width (search rules) (search rules) (search rules) c.less.ensures)
    (back c.less-2.result c.args.self.now.finite c.args.other.now.finite (search rules) (search rules) (search rules) c.less-2.ensures)
    (back c.less-3.result c.args.self.now.fil c.args.other.now.fil (search rules) (search rules) (search rules) c.less-3.ensures)
    (back c.less-4.result c.args.self.now.fill c.args.other.now.fill (search rules) (search rules) (search rules) c.less-4.ensures)
    (back c.less-5.result c.args.self.now.filll c.args.other.now.filll (search rules) (search rules) (search rules) c.less-5.ensures)
    (back c.less-6.result c.args.self.now.shrink c.args.other.now.shrink (search rules) (search rules) (search rules) c.less-6.ensures)
    (back c.less-7.result c.args.self.now.font_stretch c.args.other.now.font_stretch (search rules) (search rules) (search rules) c.less-7.ensures)
    (back c.less-8.result c.args.self.now.font_shrink c.args.other.now.font_shrink (search rules) (search rules) (search rules) c.less-8.ensures)
    ∙ minus-is c.args.self.now c.args.other.now
