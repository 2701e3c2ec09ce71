-- What was drawn so far was set, and each turn draws a greater number.
use Rattle.std.proofs.Common.{◌≡◌, ◌++◌, ◌-◌, false, length}
use Rattle.std.specs.Prelude.{All}
use Rattle.table_widths.specs.Widths.{IsIdle, touched_of}
use Rattle.para_threads.specs.Working.{AsksForAll, IsDone, drawn_by}
use Rattle.para_threads.proofs.WorkTurns.{next_draw}
use Rattle.para_threads.proofs.worker.Worker.run.Given as goal

abbrev pub invariant-loop-place : goal.invariant-loop-place
invariant-loop-place g l = record {
  idle : IsIdle l.self.table.now l.seat;
  going : l.seat.view.ended ≡ false;
  number : l.seat.view.number ≡ l.initial.seat.view.number;
  drawn : l.seat.view.drawn ≡ l.initial.seat.view.drawn ++ drawn_by l.initial.seat.view.number l.done.items;
  each : All (IsDone l.self.job.now l.self.stock.now) l.done.items;
  asked : AsksForAll l.self.job.now l.self.stock.now l.self.table.now.bases l.done.items
      (touched_of l.self.table.now.bases l.initial.seat.view.seen) (touched_of l.self.table.now.bases l.seat.view.seen);
}

abbrev pub decreases-loop-place : goal.decreases-loop-place
decreases-loop-place g l = length l.self.job.now.pars - next_draw l.seat.view.drawn
