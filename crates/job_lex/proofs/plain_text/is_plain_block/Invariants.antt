use Rattle.std.specs.Prelude.{IsTrue}
use Rattle.job_lex.specs.PlainTokens.{ArePlain}
use Rattle.job_lex.proofs.plain_text.is_plain_block.Given as goal

abbrev pub invariant-loop-place : goal.invariant-loop-place
invariant-loop-place l = IsTrue l.plain → ArePlain l.bytes l.from l.place
