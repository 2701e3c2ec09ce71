use Rattle.std.proofs.lemmas.List.{get_or-replicate}
use Rattle.liang_hyph.proofs.table.Patterns.values_of_parts.Goals as goal

pub loop-at-init : goal.loop-at-init
loop-at-init c = λ h l. get_or-replicate 64 h 0 0 l
