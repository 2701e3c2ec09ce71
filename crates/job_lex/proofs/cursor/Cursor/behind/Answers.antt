use Rattle.job_lex.specs.Ahead.{TokensFrom}
use Rattle.job_lex.proofs.Ahead.{behind, first_is}
use Rattle.job_lex.proofs.cursor.Cursor.behind.Goals as goal

pub invariant_of-result : goal.invariant_of-result
invariant_of-result c = record {
  small = c.args.self.small;
  ahead = behind _ _ c.args.tok c.args.self.ahead c.requires.inside c.requires.from c.requires.token;
}

pub returns-clause-ahead : goal.returns-clause-ahead
returns-clause-ahead c =
    let more : TokensFrom c.args.self.bytes.now c.args.tok.to = search in
    first_is _ _ c.args.tok c.args.self.ahead more c.requires.from c.requires.token
