use Rattle.std.proofs.Common.{arith, refl}
use Rattle.tfm_read.specs.Checks.{halfword_check}
use Rattle.tfm_read.proofs.Entries.{first_of_found}
use Rattle.tfm_read.proofs.Loops.{halfwords_none, halfwords_more, halfwords_all, wide_halfword}
use Rattle.tfm_read.proofs.header.read_halfwords.Goals as goal

pub loop-n-init : goal.loop-n-init
loop-n-init c = halfwords_none c.args.bytes.now _ refl

pub returns-then-halfword-ge32768 : goal.returns-then-halfword-ge32768
returns-then-halfword-ge32768 c =
    rw c.fault.ensures
    (first_of_found (halfword_check c.args.bytes.now) c.loop-n.n 12 _ (omega arith) c.loop-n.invariant.sound
    (wide_halfword c.args.bytes.now c.loop-n.n (omega (arith, c.halfword_at-halfword.ensures))))

pub loop-n-preserved : goal.loop-n-preserved
loop-n-preserved c =
    halfwords_more c.args.bytes.now c.loop-n.halfwords c.loop-n.n c.halfword_at-halfword.result (omega arith) c.halfword_at-halfword.ensures (omega arith) c.loop-n.invariant

pub returns : goal.returns
returns c = halfwords_all c.args.bytes.now c.loop-n.halfwords c.loop-n.n (omega arith) c.loop-n.invariant
