use Rattle.job_lex.proofs.Ahead.{none_at_end, none_at_stop}
use Rattle.job_lex.proofs.cursor.Cursor.next.Goals as goal

pub returns-then-self-clause-first : goal.returns-then-self-clause-first
returns-then-self-clause-first c = none_at_end _ _ c.args.self.ahead c.if-self.true

-- the file has tokens, so none of its places is such
pub returns-in-Err-clause-first : goal.returns-in-Err-clause-first
returns-in-Err-clause-first c = none_at_stop _ _ _ c.args.self.ahead c.in-Err.ensures
