use Rattle.std.proofs.Common.{arith, refl}
use Rattle.pdfmicro_run.proofs.PiecesLaws.{fronts_none, fronts_more, fronts_part}
use Rattle.pdfmicro_run.proofs.pieces.write_pieces.Goals as goal

pub loop-rest-init : goal.loop-rest-init
loop-rest-init g c = record {
  written = fronts_none c.args.bytes.now _ (g.met.O.Sink.counts_fit c.args.out.now).calls;
  calls = omega arith;
  faults = omega arith;
}

pub loop-rest-preserved : goal.loop-rest-preserved
loop-rest-preserved g c = record {
  written = fronts_more c.args.bytes.now c.loop-rest.rest.now c.first_piece.result.0.now c.first_piece.result.1.now _ _
      (g.O.Sink.state c.loop-rest.out) _
      c.loop-rest.invariant.written (grind arith) refl c.first_piece.ensures.piece c.first_piece.ensures.rest c.in-Ok.ensures.ok c.in-Ok.ensures.called;
  calls = omega (arith, c.loop-rest.invariant.calls, c.in-Ok.ensures.called, (g.met.O.Sink.counts_fit c.loop-rest.out).calls);
  faults = omega (arith, c.loop-rest.invariant.faults, c.in-Ok.ensures.faults);
}

pub returns-in-Err-clause-part : goal.returns-in-Err-clause-part
returns-in-Err-clause-part g c =
    fronts_part c.args.bytes.now c.loop-rest.rest.now c.first_piece.result.0.now c.first_piece.result.1.now _ (g.O.Sink.state c.args.out.now)
    (g.O.Sink.state c.loop-rest.out) (g.O.Sink.state c.write.new.self)
    c.loop-rest.invariant.written (grind arith) refl c.first_piece.ensures.piece c.first_piece.ensures.rest c.in-Err.ensures.part c.in-Err.ensures.called
