use Rattle.std.proofs.Common.{rules}
use Rattle.std.proofs.lemmas.List.FromFn.{fill_by_all}
use Rattle.micro_num.specs.Plain.{plain_lower}
use Rattle.micro_num.proofs.tables.plain_letters.Goals as goal

pub returns : goal.returns
returns c = fill_by_all plain_lower c.loop-code.letters 256 0 c.loop-code.invariant.0 (search rules)
