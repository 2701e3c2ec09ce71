-- What the first expandable font has is what all share.
use Rattle.std.proofs.Common.{sym, ◌∙◌}
use Rattle.break_rule.proofs.SharingLaws.{shared_in}
use Rattle.break_rule.proofs.expansion.shared_expansion.Goals as goal

pub returns : goal.returns
returns c = c.first_expansion.ensures ∙ sym (shared_in c.args.stock.now c.args.items.now)
