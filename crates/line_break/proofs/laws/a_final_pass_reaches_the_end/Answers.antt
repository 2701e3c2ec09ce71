use Rattle.std.proofs.Common.{subst, sym, refl}
use Rattle.std.specs.Prelude.{IsSome}
use Rattle.line_break.proofs.Reaching.{open_to_some, reaches}
use Rattle.line_break.proofs.Loosening.{way_found}
use Rattle.line_break.proofs.laws.a_final_pass_reaches_the_end.Goals as goal

pub returns-clause-open_to : goal.returns-clause-open_to
returns-clause-open_to c = open_to_some

pub returns-clause-best : goal.returns-clause-best
returns-clause-best c = λ q ended final. let b = reaches q final ended in subst IsSome (sym b.1) refl

pub returns-clause-way : goal.returns-clause-way
returns-clause-way c = λ q looseness ended single final. let b = way_found q ended single final looseness in subst IsSome (sym b.1) refl
