use Rattle.std.proofs.Common.{◌≡◌, ◌∙◌, ◌+ℤ◌, pos, ap, FitsSigned, to_z, of_z, arith, rules}
use mir.Syntax.{w32, w64}
use Rattle.std.proofs.lemmas.Int.{ints, to_z-of_z}
use Rattle.line_break.specs.Tables.{badness_of}
use Rattle.line_break.proofs.TableLemmas.{records_from}
use Rattle.line_break.proofs.table.Table.records.Goals as goal

pub returns : goal.returns
returns c =
    let t = c.args.self.now in
    let w = c.args.w.now in
    let fits : FitsSigned w32 t.threshold = search rules in
    let low = c.demerits.ensures.low in
    let high = c.demerits.ensures.high in
    let near = c.requires.near in
    let sum : to_z w64 (of_z w64 (to_z w64 (of_z w64 w.total) +ℤ to_z w64 (of_z w64 c.demerits.result))) ≡ w.total +ℤ c.demerits.result = omega (arith, ints) in
    let bad : to_z w32 c.badness_of-badness.result ≡ pos c.badness_of-badness.result = omega (arith, ints) in
    records_from t c.args.to w _ _ _ (bad ∙ ap pos (c.badness_of-badness.ensures ∙ ap badness_of c.line.ensures)) (to_z-of_z w32 t.threshold fits) (sum ∙ ap (λ d. w.total +ℤ d) c.demerits.ensures.value)
