use Rattle.std.proofs.Common.{rules, arith, ◌≡◌, ap, FitsSigned, w64}
use Rattle.std.specs.Prelude.{slice_index}
use Rattle.std.proofs.lemmas.Int.{to_z-of_z}
use Rattle.font_stock.specs.Fonts.{char_of, shrink_at}
use Rattle.font_stock.specs.Scaling.{scaled_char}
use Rattle.font_stock.proofs.Limits.{shrink_none, shrink_at-small, factor_at-few}
use Rattle.font_stock.proofs.Characters.{char_of-fits}
use Rattle.font_stock.proofs.font.Font.shrink_of.Goals as goal

pub returns-clause-unshrunk : goal.returns-clause-unshrunk
unfolding scaled_char
returns-clause-unshrunk c =
    let fits : FitsSigned w64 c.scaled.result.now.shrink = search rules in
    let font = c.args.self.now in
    let is : c.scaled.result.now.shrink ≡ shrink_at font.expand (slice_index font.codes.ef c.args.code) (char_of font.tfm c.args.code).width font.size =
    ap (λ s. s.shrink) c.scaled.ensures in
    simp to_z-of_z (rw is (shrink_none _ _ _ _))

pub returns-clause-small : goal.returns-clause-small
unfolding scaled_char
returns-clause-small c =
    let fits : FitsSigned w64 c.scaled.result.now.shrink = search rules in
    let font = c.args.self.now in
    let is : c.scaled.result.now.shrink ≡ shrink_at font.expand (slice_index font.codes.ef c.args.code) (char_of font.tfm c.args.code).width font.size =
    ap (λ s. s.shrink) c.scaled.ensures in
    let few = factor_at-few font.codes.ef c.args.code font.codes.ef_fits in
    let stretched = char_of-fits font.tfm font.expand c.args.code font.widths_fit (omega arith) in
    simp to_z-of_z (rw is (shrink_at-small font.expand _ _ font.size few font.size_fits stretched))
