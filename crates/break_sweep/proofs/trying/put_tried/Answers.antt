use Rattle.std.proofs.Common.{Option, subst, arith}
use Rattle.std.specs.List.{All}
use Rattle.std.specs.Option.{option_to_list}
use Rattle.break_sweep.specs.declared.made.Made.{Made}
use Rattle.break_sweep.specs.Made.{IsFound}
use Rattle.break_sweep.proofs.trying.put_tried.Goals as goal

pub returns-in_ok-put_line-clause-found : goal.returns-in_ok-put_line-clause-found
returns-in_ok-put_line-clause-found c = λ to n one all.
    let here = subst (λ (o : Option Made). All (IsFound to n) (option_to_list o)) c.in-Some.is one in
    c.in_ok-put_line.ensures.found to n (here 0 c.in-Some.line (omega arith)) all
