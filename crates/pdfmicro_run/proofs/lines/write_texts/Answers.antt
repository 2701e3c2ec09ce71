use Rattle.std.proofs.Common.{◌+◌, ◌∷◌, List, ℕ, drop, arith, refl, sym, ◌∙◌, ap}
use Rattle.std.proofs.lemmas.List.{drop_all}
use Rattle.pdfmicro_run.proofs.TextsLaws.{texts_none, texts_more, texts_all, texts_part, some_text, texts_split}
use Rattle.pdfmicro_run.proofs.lines.write_texts.Goals as goal

pub loop-text-init : goal.loop-text-init
loop-text-init g c = record {
  said = texts_none c.args.texts.now _ _ refl (g.met.T.Sink.counts_fit c.args.talk.now).calls;
  calls = omega arith;
  faults = omega arith;
}

pub loop-text-preserved : goal.loop-text-preserved
loop-text-preserved g c =
    let texts = c.args.texts.now in
    let index = c.loop-text.text-index in
    let cut = texts_split texts index c.text-item.result c.loop-text-test.true c.text-item.is ∙ ap (λ (t : List ℕ). t ∷ drop (index + 1) texts) (sym c.as_bytes.ensures) in
    record {
      said = texts_more texts (drop index texts) (drop (index + 1) texts) c.as_bytes.result.now _ (g.T.Sink.state c.loop-text.talk) _ cut c.loop-text.invariant.said c.in-Ok.ensures.ok c.in-Ok.ensures.called;
      calls = omega (arith, c.loop-text.invariant.calls, c.in-Ok.ensures.called, (g.met.T.Sink.counts_fit c.loop-text.talk).calls);
      faults = omega (arith, c.loop-text.invariant.faults, c.in-Ok.ensures.faults);
    }

pub returns-in-Err-clause-some : goal.returns-in-Err-clause-some
returns-in-Err-clause-some g c =
    let texts = c.args.texts.now in
    let index = c.loop-text.text-index in
    some_text texts (drop index texts) (drop (index + 1) texts) c.text-item.result _ _ (texts_split texts index c.text-item.result c.loop-text-test.true c.text-item.is) c.loop-text.invariant.said

pub returns-in-Err-clause-part : goal.returns-in-Err-clause-part
returns-in-Err-clause-part g c =
    let texts = c.args.texts.now in
    let index = c.loop-text.text-index in
    let cut = texts_split texts index c.text-item.result c.loop-text-test.true c.text-item.is ∙ ap (λ (t : List ℕ). t ∷ drop (index + 1) texts) (sym c.as_bytes.ensures) in
    texts_part texts (drop index texts) (drop (index + 1) texts) c.as_bytes.result.now (g.T.Sink.state c.args.talk.now) (g.T.Sink.state c.loop-text.talk) (g.T.Sink.state c.write.new.self) cut c.loop-text.invariant.said c.in-Err.ensures.part c.in-Err.ensures.called

pub returns-clause-ok : goal.returns-clause-ok
returns-clause-ok g c =
    let texts = c.args.texts.now in
    let index = c.loop-text.text-index in
    texts_all texts (drop index texts) _ _ (drop_all index texts c.loop-text-test.false) c.loop-text.invariant.said
