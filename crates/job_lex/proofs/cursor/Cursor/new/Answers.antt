use Rattle.job_lex.proofs.Ahead.{from_start}
use Rattle.job_lex.proofs.cursor.Cursor.new.Goals as goal

pub invariant_of-result : goal.invariant_of-result
invariant_of-result c = record { small = c.requires; ahead = from_start _ c.in-None.ensures }
