use Rattle.std.proofs.Common.{rules, arith, ◌≡◌, ap, FitsSigned, w64}
use Rattle.std.specs.Prelude.{slice_index}
use Rattle.std.proofs.lemmas.Int.{to_z-of_z}
use Rattle.font_stock.specs.Fonts.{char_of, stretch_at}
use Rattle.font_stock.specs.Scaling.{scaled_char}
use Rattle.font_stock.proofs.Limits.{stretch_none, stretch_at-small, factor_at-few}
use Rattle.font_stock.proofs.Characters.{char_of-fits}
use Rattle.font_stock.proofs.font.Font.stretch_of.Goals as goal

pub returns-clause-unstretched : goal.returns-clause-unstretched
unfolding scaled_char
returns-clause-unstretched c =
    let fits : FitsSigned w64 c.scaled.result.now.stretch = search rules in
    let font = c.args.self.now in
    let is : c.scaled.result.now.stretch ≡ stretch_at font.expand (slice_index font.codes.ef c.args.code) (char_of font.tfm c.args.code).width font.size =
    ap (λ s. s.stretch) c.scaled.ensures in
    simp to_z-of_z (rw is (stretch_none _ _ _ _))

pub returns-clause-small : goal.returns-clause-small
unfolding scaled_char
returns-clause-small c =
    let fits : FitsSigned w64 c.scaled.result.now.stretch = search rules in
    let font = c.args.self.now in
    let is : c.scaled.result.now.stretch ≡ stretch_at font.expand (slice_index font.codes.ef c.args.code) (char_of font.tfm c.args.code).width font.size =
    ap (λ s. s.stretch) c.scaled.ensures in
    let few = factor_at-few font.codes.ef c.args.code font.codes.ef_fits in
    let stretched = char_of-fits font.tfm font.expand c.args.code font.widths_fit (omega arith) in
    simp to_z-of_z (rw is (stretch_at-small font.expand _ _ font.size few font.size_fits stretched))
