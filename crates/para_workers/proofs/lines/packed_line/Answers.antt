-- The line of its number, or that it isn't in range.
use Rattle.std.proofs.Common.{ap, sym, ◌∙◌, inl, subst, List, ◌+ℤ◌, w32, rules}
use Rattle.std.proofs.lemmas.Int.{to_z-of_z}
use Rattle.font_stock.specs.declared.font.Font.{Font}
use Rattle.hpack_two.specs.Answers.{touched_with}
use Rattle.hpack_two.specs.Over.{IsOver}
use Rattle.hpack_two.specs.Lines.{glyphs_of, stepped}
use Rattle.instance_core.specs.declared.page.Packed.{Packed}
use Rattle.instance_core.specs.declared.page.Placed.{Placed}
use Rattle.micro_num.specs.declared.shape.ShapeLine.{ShapeLine}
use Rattle.para_workers.proofs.OneLine.{IsEnd, at-is, bad-line, ends, glyphs-are, line-is, ok-line, set-as}
use Rattle.para_workers.proofs.AskedCells.{all-asked}
use Rattle.para_workers.proofs.FittingPages.{line-over}
use Rattle.para_workers.proofs.lines.packed_line.Goals as goal

pub pack-requires-clause-line : goal.pack-requires-clause-line
pack-requires-clause-line g c = subst (λ (stock : List Font). IsOver stock c.in-Ok.line.pieces) c.requires.stock c.in-Ok.ensures.packable

pub pack-requires-clause-low : goal.pack-requires-clause-low
pack-requires-clause-low g c =
    let at = at-is c.args.rule.now c.args.number c.params.result.now c.shape.result.now c.shape_line-at.result c.params.ensures c.shape.ensures c.shape_line-at.ensures in
    let end = subst (λ (a : ShapeLine). IsEnd (a.indent +ℤ a.width)) (sym at) (ends c.args.rule.now.params c.args.rule.now.shape c.args.number c.requires.lengths) in
    rw (to_z-of_z w32 c.shape_line-at.result.width (search rules), to_z-of_z w32 c.shape_line-at.result.indent (search rules)) end.low

pub pack-requires-clause-high : goal.pack-requires-clause-high
pack-requires-clause-high g c =
    let at = at-is c.args.rule.now c.args.number c.params.result.now c.shape.result.now c.shape_line-at.result c.params.ensures c.shape.ensures c.shape_line-at.ensures in
    let end = subst (λ (a : ShapeLine). IsEnd (a.indent +ℤ a.width)) (sym at) (ends c.args.rule.now.params c.args.rule.now.shape c.args.number c.requires.lengths) in
    rw (to_z-of_z w32 c.shape_line-at.result.width (search rules), to_z-of_z w32 c.shape_line-at.result.indent (search rules)) end.high

pub returns-in-Ok-pack-clause-line : goal.returns-in-Ok-pack-clause-line
returns-in-Ok-pack-clause-line g c =
    let rule = c.args.rule.now in
    let at = at-is rule c.args.number c.params.result.now c.shape.result.now c.shape_line-at.result c.params.ensures c.shape.ensures c.shape_line-at.ensures in
    let line = line-is rule c.args.from c.args.to c.in-Ok.line c.in-Ok.ensures.pieces c.in-Ok.ensures.expand in
    let same = set-as rule c.args.number c.args.from c.args.to c.args.stock.now c.in-Ok.line c.shape_line-at.result _ _ c.requires.stock line at
    (to_z-of_z w32 c.shape_line-at.result.width (search rules)) (to_z-of_z w32 c.shape_line-at.result.indent (search rules)) in
    inl (ok-line rule c.args.number c.args.from c.args.to c.args.stock.now c.in-Ok.line _ _ c.in-Ok-pack.packed same c.in-Ok-pack.ensures.line.0 c.in-Ok-pack.ensures.line.1)

pub returns-in-Ok-pack-clause-touched : goal.returns-in-Ok-pack-clause-touched
unfolding glyphs_of
returns-in-Ok-pack-clause-touched g c =
    let glyphs = sym (ap (λ (l : Packed). l.glyphs) c.in-Ok-pack.ensures.line.0) in
    c.in-Ok-pack.ensures.touched
    ∙ ap (λ (own : List Placed). touched_with (g.W.WidthSource.bases c.args.source.now) (stepped own) (g.W.WidthSource.touched c.args.source.now)) glyphs

pub returns-in-Err-OutOfRange-clause-line : goal.returns-in-Err-OutOfRange-clause-line
returns-in-Err-OutOfRange-clause-line g c =
    let rule = c.args.rule.now in
    let at = at-is rule c.args.number c.params.result.now c.shape.result.now c.shape_line-at.result c.params.ensures c.shape.ensures c.shape_line-at.ensures in
    let line = line-is rule c.args.from c.args.to c.in-Ok.line c.in-Ok.ensures.pieces c.in-Ok.ensures.expand in
    let same = set-as rule c.args.number c.args.from c.args.to c.args.stock.now c.in-Ok.line c.shape_line-at.result _ _ c.requires.stock line at
    (to_z-of_z w32 c.shape_line-at.result.width (search rules)) (to_z-of_z w32 c.shape_line-at.result.indent (search rules)) in
    let out = rw c.in-Err-OutOfRange.field-0-is at c.in-Err-OutOfRange.ensures.line in
    inl (bad-line rule c.args.number c.args.from c.args.to c.args.stock.now c.in-Ok.line _ _ c.in-Err-OutOfRange.field-0-0 same out)

pub returns-in-Err-OutOfRange-clause-touched : goal.returns-in-Err-OutOfRange-clause-touched
returns-in-Err-OutOfRange-clause-touched g c =
    let rule = c.args.rule.now in
    let at = at-is rule c.args.number c.params.result.now c.shape.result.now c.shape_line-at.result c.params.ensures c.shape.ensures c.shape_line-at.ensures in
    let line = line-is rule c.args.from c.args.to c.in-Ok.line c.in-Ok.ensures.pieces c.in-Ok.ensures.expand in
    let same = set-as rule c.args.number c.args.from c.args.to c.args.stock.now c.in-Ok.line c.shape_line-at.result _ _ c.requires.stock line at
    (to_z-of_z w32 c.shape_line-at.result.width (search rules)) (to_z-of_z w32 c.shape_line-at.result.indent (search rules)) in
    let glyphs = glyphs-are rule c.args.number c.args.from c.args.to c.args.stock.now c.in-Ok.line _ _ same in
    let asked = rw c.in-Err-OutOfRange.field-0-is at c.in-Err-OutOfRange.ensures.touched in
    all-asked _ _ _ _
    (asked ∙ ap (λ (own : List Placed). touched_with (g.W.WidthSource.bases c.args.source.now) (stepped own) (g.W.WidthSource.touched c.args.source.now)) glyphs)

pub returns-in-Ok-pack-clause-over : goal.returns-in-Ok-pack-clause-over
returns-in-Ok-pack-clause-over g c =
    let over = subst (λ (stock : List Font). IsOver stock c.in-Ok.line.pieces) c.requires.stock c.in-Ok.ensures.packable in
    line-over c.args.stock.now c.in-Ok.line _ _ c.in-Ok-pack.packed over c.in-Ok-pack.ensures.line.0 c.in-Ok-pack.ensures.line.1
