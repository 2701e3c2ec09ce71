use Rattle.std.proofs.Common.{◌≤◌, drop}
use Rattle.pdfmicro_run.proofs.TextsLaws.{TextsSaid}
use Rattle.pdfmicro_run.proofs.lines.write_texts.Given as goal

-- the texts before were written, each in one call
abbrev pub invariant-loop-text : goal.invariant-loop-text
invariant-loop-text g l =
    let sink = g.T.Sink in
    record {
      said : TextsSaid l.texts (drop l.text-index l.texts) (sink.state l.fn.talk) (sink.state l.talk);
      calls : (sink.state l.fn.talk).calls ≤ (sink.state l.talk).calls;
      faults : (sink.state l.fn.talk).faults ≤ (sink.state l.talk).faults;
    }
