use Rattle.std.proofs.Common.{rules}
use Rattle.std.proofs.lemmas.List.FromFn.{fill_by_all}
use Rattle.micro_num.specs.Plain.{plain_factor}
use Rattle.micro_num.proofs.tables.plain_factors.Goals as goal

pub returns : goal.returns
returns c = fill_by_all plain_factor c.loop-code.factors 256 0 c.loop-code.invariant.0 (search rules)
