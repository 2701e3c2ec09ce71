use Rattle.std.proofs.Common.{rules, ◌≡◌, FitsSigned, w32, w64}
use Rattle.std.specs.Prelude.{slice_index}
use Rattle.std.proofs.lemmas.Int.{to_z-of_z}
use Rattle.font_stock.specs.Fonts.{shrink_at}
use Rattle.font_stock.proofs.Characters.{kern-fits}
use Rattle.font_stock.proofs.Limits.{shrink_none, shrink_at-small, factor_at-few}
use Rattle.font_stock.proofs.font.Font.kern_shrink.Goals as goal

pub shrink-requires-clause-expanded : goal.shrink-requires-clause-expanded
shrink-requires-clause-expanded c =
    let fits : FitsSigned w32 c.args.fix = c.ranges.fix in
    let font = c.args.self.now in
    simp to_z-of_z (kern-fits font.expand font.tfm.kerns c.args.fix font.kerns_fit c.requires)

pub returns-clause-unshrunk : goal.returns-clause-unshrunk
returns-clause-unshrunk c =
    let fits : FitsSigned w32 c.args.fix = c.ranges.fix in
    let fits_result : FitsSigned w64 c.shrink.result = search rules in
    let font = c.args.self.now in
    let is : c.shrink.result ≡ shrink_at font.expand (slice_index font.codes.ef c.args.code) c.args.fix font.size = search rules in
    simp to_z-of_z (rw is (shrink_none _ _ _ _))

pub returns-clause-small : goal.returns-clause-small
returns-clause-small c =
    let fits : FitsSigned w32 c.args.fix = c.ranges.fix in
    let fits_result : FitsSigned w64 c.shrink.result = search rules in
    let font = c.args.self.now in
    let is : c.shrink.result ≡ shrink_at font.expand (slice_index font.codes.ef c.args.code) c.args.fix font.size = search rules in
    let few = factor_at-few font.codes.ef c.args.code font.codes.ef_fits in
    let stretched = kern-fits font.expand font.tfm.kerns c.args.fix font.kerns_fit c.requires in
    simp to_z-of_z (rw is (shrink_at-small font.expand _ _ font.size few font.size_fits stretched))
