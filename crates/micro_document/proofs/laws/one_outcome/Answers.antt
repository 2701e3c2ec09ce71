use Rattle.micro_document.proofs.OneOutcome.{one_outcome}
use Rattle.micro_document.proofs.laws.one_outcome.Goals as goal

pub returns : goal.returns
returns c = one_outcome
