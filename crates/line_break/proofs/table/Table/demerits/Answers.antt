use Rattle.std.proofs.Common.{◌≡◌, ◌∙◌, ◌+ℤ◌, ap, FitsSigned, to_z, of_z, arith, rules}
use mir.Syntax.{w32, w64}
use Rattle.std.proofs.lemmas.Int.{ints, to_z-of_z}
use Rattle.line_break.specs.Tables.{line_at, demerits_of, class_of, adjacent, pass_of}
use Rattle.line_break.proofs.TableLemmas.{line_near}
use Rattle.line_break.proofs.table.Table.demerits.Goals as goal

pub overflow_add-result : goal.overflow_add-result
overflow_add-result c =
    let t = c.args.self.now in
    let x = c.args.x.now in
    let a = line_near t x.place x.group c.args.to c.line-line.result c.demerits_of.result c.requires c.line-line.ensures c.demerits_of.ensures in
    let b = c.adjacent.ensures.low in
    let d = c.adjacent.ensures.high in
    omega (arith, ints)

pub returns-clause-value : goal.returns-clause-value
unfolding pass_of
returns-clause-value c =
    let t = c.args.self.now in
    let x = c.args.x.now in
    let l = line_at t.lines x.place x.group c.args.to in
    let fits : FitsSigned w32 t.adjdemerits = search rules in
    let a = line_near t x.place x.group c.args.to c.line-line.result c.demerits_of.result c.requires c.line-line.ensures c.demerits_of.ensures in
    let b = c.adjacent.ensures.low in
    let d = c.adjacent.ensures.high in
    let sum : to_z w64 (of_z w64 (to_z w64 (of_z w64 c.demerits_of.result) +ℤ to_z w64 (of_z w64 c.adjacent.result))) ≡ c.demerits_of.result +ℤ c.adjacent.result = omega (arith, ints) in
    sum
    ∙ (ap (λ z. z +ℤ c.adjacent.result) (c.demerits_of.ensures ∙ ap demerits_of c.line-line.ensures)
    ∙ ap (λ z. demerits_of l +ℤ z)
    (c.adjacent.ensures.value
    ∙ (ap (λ z. adjacent z x.class c.class_of.result) (to_z-of_z w32 t.adjdemerits fits)
    ∙ ap (adjacent t.adjdemerits x.class) (c.class_of.ensures ∙ ap class_of c.line-line.ensures))))

pub returns-clause-low : goal.returns-clause-low
returns-clause-low c =
    let t = c.args.self.now in
    let x = c.args.x.now in
    let a = line_near t x.place x.group c.args.to c.line-line.result c.demerits_of.result c.requires c.line-line.ensures c.demerits_of.ensures in
    let b = c.adjacent.ensures.low in
    let d = c.adjacent.ensures.high in
    omega (arith, ints)

pub returns-clause-high : goal.returns-clause-high
returns-clause-high c =
    let t = c.args.self.now in
    let x = c.args.x.now in
    let a = line_near t x.place x.group c.args.to c.line-line.result c.demerits_of.result c.requires c.line-line.ensures c.demerits_of.ensures in
    let b = c.adjacent.ensures.low in
    let d = c.adjacent.ensures.high in
    omega (arith, ints)
