use Rattle.std.proofs.Common.{◌≡◌, ◌+◌, ◌-◌, arith}
use Rattle.job_lex.specs.Ahead.{TokensFrom}
use Rattle.job_lex.proofs.PlainTokens.{ahead_inside, behind_plain, plain_is}
use Rattle.job_lex.proofs.cursor.Cursor.plain_text.Goals as goal

pub plain_end-to-requires : goal.plain_end-to-requires
plain_end-to-requires c = ahead_inside _ _ c.args.self.ahead

pub invariant_of-behind : goal.invariant_of-behind
invariant_of-behind c =
    let end = c.plain_end-to.ensures in
    let count : c.args.self.place + (c.plain_end-to.result - c.args.self.place) ≡ c.plain_end-to.result = omega (arith, end.after) in
    record { small = c.args.self.small; ahead = behind_plain _ _ _ _ count end.plain c.args.self.ahead }

pub returns-clause-ahead : goal.returns-clause-ahead
returns-clause-ahead c =
    let end = c.plain_end-to.ensures in
    let count : c.args.self.place + (c.plain_end-to.result - c.args.self.place) ≡ c.plain_end-to.result = omega (arith, end.after) in
    let more : TokensFrom c.args.self.bytes.now c.plain_end-to.result = search in
    plain_is _ _ _ _ count end.plain c.args.self.ahead more
