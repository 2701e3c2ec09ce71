use Rattle.std.proofs.Common.{◌+◌, drop, arith, rules, sym, subst}
use Rattle.micro_texts.specs.declared.answer.Answer.{Answer}
use Rattle.micro_document.specs.Steps.{RefusesFonts}
use Rattle.micro_document.proofs.Steps.{given_more, given_stops, left_split}
use Rattle.micro_document.proofs.generated.given_fonts.Goals as goal

pub returns-in-Err-clause-refuses : goal.returns-in-Err-clause-refuses
returns-in-Err-clause-refuses c =
    let R : Answer → Type 0 = λ answer. RefusesFonts c.args.job.now c.args.bytes.now answer in
    subst R (sym c.font_answer.ensures)
    (given_stops c.args.job.now c.args.bytes.now c.loop-decl.fonts.items c.len.result c.decl-item.result
    (drop c.loop-decl.decl-index c.as_slice-decl-items.result.now) (drop (c.loop-decl.decl-index + 1) c.as_slice-decl-items.result.now) c.in-Err.fault
    (grind arith) (left_split c.as_slice-decl-items.result.now c.loop-decl.decl-index c.decl-item.result c.loop-decl-test.true c.decl-item.is)
    c.in-Err.ensures.fault c.loop-decl.invariant.left)

pub loop-decl-preserved : goal.loop-decl-preserved
loop-decl-preserved c = record {
  left = given_more c.args.job.now c.args.bytes.now c.loop-decl.fonts.items c.push.new.self.items c.in-Ok.font c.decl-item.result
      (drop c.loop-decl.decl-index c.as_slice-decl-items.result.now) (drop (c.loop-decl.decl-index + 1) c.as_slice-decl-items.result.now)
      (search rules) (left_split c.as_slice-decl-items.result.now c.loop-decl.decl-index c.decl-item.result c.loop-decl-test.true c.decl-item.is)
      c.in-Ok.ensures.font c.loop-decl.invariant.left;
  count = search rules;
}
