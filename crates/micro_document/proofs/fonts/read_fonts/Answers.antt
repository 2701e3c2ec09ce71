use Rattle.std.proofs.Common.{◌+◌, drop, arith, rules, sym, subst}
use Rattle.std.proofs.lemmas.List.{drop_all}
use Rattle.micro_document.specs.declared.stop.Stop.{Stop}
use Rattle.micro_document.specs.Steps.{FontsStop}
use Rattle.micro_document.proofs.Steps.{fonts_more, fonts_stop, fonts_lost, fonts_end, left_split}
use Rattle.micro_document.proofs.fonts.read_fonts.Goals as goal

pub loop-decl-preserved : goal.loop-decl-preserved
loop-decl-preserved g c = record {
  left = fonts_more c.args.job.now (g.S.Shelf.state c.args.shelf.now) (g.S.Shelf.state c.loop-decl.shelf) (g.S.Shelf.state c.one_font.new.shelf) c.loop-decl.fonts.items c.push.new.self.items c.len.result c.in-Ok.font c.decl-item.result
      (drop c.loop-decl.decl-index c.as_slice-decl-items.result.now) (drop (c.loop-decl.decl-index + 1) c.as_slice-decl-items.result.now)
      (grind arith) (search rules) (left_split c.as_slice-decl-items.result.now c.loop-decl.decl-index c.decl-item.result c.loop-decl-test.true c.decl-item.is)
      c.loop-decl.invariant.left c.in-Ok.ensures.goes_on;
  count = search rules;
}

pub returns-in-Err-clause-stops : goal.returns-in-Err-clause-stops
returns-in-Err-clause-stops g c =
    fonts_stop c.args.job.now (g.S.Shelf.state c.args.shelf.now) (g.S.Shelf.state c.loop-decl.shelf) (g.S.Shelf.state c.one_font.new.shelf) c.loop-decl.fonts.items c.len.result c.decl-item.result
    (drop c.loop-decl.decl-index c.as_slice-decl-items.result.now) (drop (c.loop-decl.decl-index + 1) c.as_slice-decl-items.result.now) c.in-Err.stop
    (grind arith) (left_split c.as_slice-decl-items.result.now c.loop-decl.decl-index c.decl-item.result c.loop-decl-test.true c.decl-item.is)
    c.loop-decl.invariant.left c.in-Err.ensures.stops

pub returns-in_default-clause-stops : goal.returns-in_default-clause-stops
returns-in_default-clause-stops g c =
    let F : Stop → Type 0 = λ stop. FontsStop c.args.job.now (g.S.Shelf.state c.args.shelf.now) (g.S.Shelf.state c.one_font.new.shelf) stop in
    subst F (sym c.of.ensures)
    (fonts_lost c.args.job.now (g.S.Shelf.state c.args.shelf.now) (g.S.Shelf.state c.loop-decl.shelf) (g.S.Shelf.state c.one_font.new.shelf) c.loop-decl.fonts.items c.len.result c.in-Ok.font c.decl-item.result
    (drop c.loop-decl.decl-index c.as_slice-decl-items.result.now) (drop (c.loop-decl.decl-index + 1) c.as_slice-decl-items.result.now)
    (grind arith) (left_split c.as_slice-decl-items.result.now c.loop-decl.decl-index c.decl-item.result c.loop-decl-test.true c.decl-item.is) (g.met.S.Shelf.counts_fit c.one_font.new.shelf).calls
    c.loop-decl.invariant.left c.in-Ok.ensures.goes_on)

pub returns-clause-goes_on : goal.returns-clause-goes_on
returns-clause-goes_on g c =
    fonts_end c.args.job.now (g.S.Shelf.state c.args.shelf.now) (g.S.Shelf.state c.loop-decl.shelf) c.loop-decl.fonts.items c.make.result (drop c.loop-decl.decl-index c.as_slice-decl-items.result.now)
    (drop_all c.loop-decl.decl-index c.as_slice-decl-items.result.now c.loop-decl-test.false) c.make.ensures c.loop-decl.invariant.left
