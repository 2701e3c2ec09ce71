use Rattle.std.proofs.Common.{◌≤◌, length}
use Rattle.pdfmicro_run.proofs.PiecesLaws.{Fronts}
use Rattle.pdfmicro_run.proofs.pieces.write_pieces.Given as goal

-- a front was written, in as many calls as it has pieces
abbrev pub invariant-loop-rest : goal.invariant-loop-rest
invariant-loop-rest g l =
    let sink = g.O.Sink in
    record {
      written : Fronts l.bytes l.rest (sink.state l.fn.out) (sink.state l.out);
      calls : (sink.state l.fn.out).calls ≤ (sink.state l.out).calls;
      faults : (sink.state l.fn.out).faults ≤ (sink.state l.out).faults;
    }

abbrev pub decreases-loop-rest : goal.decreases-loop-rest
decreases-loop-rest g l = length l.rest
