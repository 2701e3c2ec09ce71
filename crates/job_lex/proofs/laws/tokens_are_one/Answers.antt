use Rattle.job_lex.proofs.Once.{AreTokens-once, tokens_or_fault, first_fault-once}
use Rattle.job_lex.proofs.laws.tokens_are_one.Goals as goal

pub returns-clause-tokens : goal.returns-clause-tokens
returns-clause-tokens c = AreTokens-once

pub returns-clause-apart : goal.returns-clause-apart
returns-clause-apart c = λ bytes toks place kind are is. tokens_or_fault _ _ _ _ _ are is.adjoin is.stop

pub returns-clause-fault : goal.returns-clause-fault
returns-clause-fault c = first_fault-once
