use Rattle.std.proofs.Common.{◌+◌, arith, ap, sym, ◌∙◌}
use Rattle.std.proofs.lemmas.List.{drop_all}
use Rattle.dvi_write.specs.Output.{grown}
use Rattle.dvi_write.specs.Writing.{pages_bytes}
use Rattle.dvi_write.proofs.Grown.{grown_nothing}
use Rattle.dvi_write.proofs.WritingSteps.{pages_step, last_step}
use Rattle.dvi_write.proofs.page.put_pages.Goals as goal

pub loop-before-preserved : goal.loop-before-preserved
loop-before-preserved c =
    rw c.length-place.ensures (record {
      bytes =
          pages_step c.args.rows.now c.args.numbering.now c.loop-before.out c.put_page.new.out c.loop-before.defined _ (c.loop-before.before + 1) c.loop-before.previous c.args.pages.now c.loop-before.before c.index-pages-before.result
          c.loop-before-test.true c.index-pages-before.is c.in_ok-defined.ensures.bytes c.in_ok-defined.ensures.after ∙ c.loop-before.invariant.bytes;
      last =
          last_step c.args.rows.now c.args.numbering.now c.loop-before.out c.put_page.new.out c.loop-before.defined _ (c.loop-before.before + 1) c.loop-before.previous c.args.pages.now c.loop-before.before c.index-pages-before.result
          c.loop-before-test.true c.index-pages-before.is c.in_ok-defined.ensures.bytes c.in_ok-defined.ensures.after ∙ c.loop-before.invariant.last;
    })

pub returns-clause-bytes : goal.returns-clause-bytes
returns-clause-bytes c =
    let all = drop_all c.loop-before.before c.args.pages.now (omega arith) in
    sym (grown_nothing c.loop-before.out)
    ∙ ap (λ rest. grown c.loop-before.out (pages_bytes c.args.rows.now c.args.numbering.now c.loop-before.defined c.loop-before.out.length (c.loop-before.before + 1) c.loop-before.previous rest)) (sym all)
    ∙ c.loop-before.invariant.bytes
