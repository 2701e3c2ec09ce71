use Rattle.std.proofs.Common.{sym, arith}
use Rattle.micro_num.proofs.Halvings.{halvings-zero, halvings-suc}
use Rattle.micro_num.proofs.scaling.halved_times.Goals as goal

pub returns-then-z-clause-exact : goal.returns-then-z-clause-exact
returns-then-z-clause-exact c = sym (halvings-zero c.args.z (omega arith))

pub returns-then-z-2-clause-exact : goal.returns-then-z-2-clause-exact
returns-then-z-2-clause-exact c = sym (halvings-suc c.args.z 0 (omega arith) (omega arith))

pub returns-then-z-3-clause-exact : goal.returns-then-z-3-clause-exact
returns-then-z-3-clause-exact c = sym (halvings-suc c.args.z 1 (omega arith) (omega arith))

pub returns-then-z-4-clause-exact : goal.returns-then-z-4-clause-exact
returns-then-z-4-clause-exact c = sym (halvings-suc c.args.z 2 (omega arith) (omega arith))

pub returns-else-z-4-clause-exact : goal.returns-else-z-4-clause-exact
returns-else-z-4-clause-exact c = sym (halvings-suc c.args.z 3 (omega arith) (omega arith))
