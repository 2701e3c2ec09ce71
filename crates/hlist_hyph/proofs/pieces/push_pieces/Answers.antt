-- One item more, and the discretionary behind it.
use Rattle.std.proofs.Common.{arith, ◌+◌}
use Rattle.hlist_hyph.specs.Pieces.{hyphening}
use Rattle.hlist_hyph.proofs.LoopLemmas.{tail-range, pieces-step, pieces-end, letters-left, whole}
use Rattle.hlist_hyph.proofs.pieces.push_pieces.Goals as goal

pub loop-k-preserved : goal.loop-k-preserved
loop-k-preserved c =
    let left = letters-left c.args.items.now c.loop-k.k c.index-items-k.result (omega arith) c.index-items-k.is in
    let room = c.loop-k.invariant.1 in
    let size = c.letter_count.ensures in (
      pieces-step (hyphening c.args.font.now c.args.setting.now) c.loop-k.from c.letter_count.result c.loop-k.taken c.in_ok-taken.taken
          c.args.items.now _ c.loop-k.k c.index-items-k.result c.loop-k.list c.push_own.new.list c.push_joint.new.list _ (omega arith)
          c.index-items-k.is size (tail-range (c.loop-k.k + 1) c.args.items.now)
          c.in_ok-push_own.ensures c.in_ok-taken.ensures.put c.in_ok-taken.ensures.taken c.loop-k.invariant.0,
      omega (arith, left, room, size),
    )

pub returns : goal.returns
returns c =
    whole _ _ _
    (pieces-end (hyphening c.args.font.now c.args.setting.now) c.loop-k.from c.loop-k.taken c.args.items.now c.loop-k.k (omega arith))
    c.loop-k.invariant.0
