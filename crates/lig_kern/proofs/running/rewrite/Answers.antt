-- Each turn is one step.
use Rattle.std.proofs.Common.{◌+◌, [], ◌++◌, length, ap, arith}
use Rattle.lig_kern.specs.Rewriting.{move_at, begins}
use Rattle.lig_kern.proofs.MoveLemmas.{move_at-grows}
use Rattle.lig_kern.proofs.StepLemmas.{reached-on, glyphs-on}
use Rattle.lig_kern.proofs.running.rewrite.Goals as goal

pub loop-current-init : goal.loop-current-init
loop-current-init c = record { within = omega arith; reached = ([], begins, c.requires.head) }

pub loop-current-preserved : goal.loop-current-preserved
loop-current-preserved c =
    let (before, r, gives) = c.loop-current.invariant.reached in
    let tfm = c.args.tfm.now in
    let current = c.in-Some.current in
    let rest = c.pop.new.self in
    let passed = (move_at tfm current rest).passed in
    record {
      within = c.if-acted-limit.false;
      reached = (
        before ++ passed,
        reached-on tfm c.args.state.now.ahead c.loop-current.acted before c.loop-current.state.ahead current rest _ _ r
            c.in-Some.ensures c.in_ok-acted.ensures.acts c.in_ok-acted.ensures.ahead,
        glyphs-on c.loop-current.state.done c.step.new.self.done before passed gives c.in_ok-acted.ensures.done,
      );
    }

pub loop-current-smaller : goal.loop-current-smaller
loop-current-smaller c =
    let grows = move_at-grows c.args.tfm.now c.in-Some.current c.pop.new.self in
    let size = grows.size in
    let few = c.in_ok-acted.ensures.acts in
    let new = ap length c.in_ok-acted.ensures.ahead in
    let old = ap length c.in-Some.ensures in
    omega (arith, size, few, new, old)

pub returns-then-acted-limit : goal.returns-then-acted-limit
returns-then-acted-limit c =
    let (before, r, gives) = c.loop-current.invariant.reached in
    let tfm = c.args.tfm.now in
    let current = c.in-Some.current in
    let rest = c.pop.new.self in
    record {
      acted = c.loop-current.acted + c.in_ok-acted.field-0;
      before = before ++ (move_at tfm current rest).passed;
      ahead = c.step.new.self.ahead;
      comes = reached-on tfm c.args.state.now.ahead c.loop-current.acted before c.loop-current.state.ahead current rest _ _ r
          c.in-Some.ensures c.in_ok-acted.ensures.acts c.in_ok-acted.ensures.ahead;
      past = c.if-acted-limit.true;
    }
