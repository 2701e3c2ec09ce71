use Rattle.std.proofs.Common.{◌≡◌, length}
use Rattle.job_lex.specs.Cursors.{bytes_of, toks_of}
use Rattle.job_reading.specs.GrammarTokens.{grammar_from}
use Rattle.job_reading.specs.Rest.{left}
use Rattle.job_reading.proofs.rest.Rest.next.Given as goal

abbrev pub invariant-loop-tok : goal.invariant-loop-tok
invariant-loop-tok l = record {
  file : bytes_of l.cursor ≡ bytes_of l.self.cursor;
  reads : grammar_from (bytes_of l.self.cursor) l.swallows (toks_of l.cursor) ≡ left l.self;
}

abbrev pub decreases-loop-tok : goal.decreases-loop-tok
decreases-loop-tok l = length (toks_of l.cursor)
