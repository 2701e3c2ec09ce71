use Rattle.std.proofs.Common.{◌-◌, [], ◌∷◌, ◌++◌, arith}
use Rattle.job_lex.specs.PlainTokens.{plain_toks}
use Rattle.job_lex.proofs.Adjoining.{Adjoin-push, Adjoin-append}
use Rattle.job_lex.proofs.Once.{extends}
use Rattle.job_lex.proofs.PlainTokens.{plain_adjoin}
use Rattle.job_lex.proofs.lexer.first_fault.Goals as goal

pub loop-place-init : goal.loop-place-init
loop-place-init c =
    let found = c.plain_end-place.ensures in
    record {
      within = found.within;
      covered = record { toks = plain_toks c.args.bytes.now 0 c.plain_end-place.result; adjoin = plain_adjoin _ _ _ _ (omega arith) found.plain };
    }

-- the token and the plain text behind it join those before them
pub loop-place-preserved : goal.loop-place-preserved
loop-place-preserved c =
    let found = c.in-Ok.ensures in
    let plain = c.plain_end-place-in-Ok.ensures in
    let tok = c.in-Ok.tok in
    let before = c.loop-place.invariant.covered in
    let text = plain_toks c.args.bytes.now tok.to (c.plain_end-place-in-Ok.result - tok.to) in
    record {
      within = plain.within;
      covered = record {
        toks = (before.toks ++ tok ∷ []) ++ text;
        adjoin = Adjoin-append _ _ (before.toks ++ tok ∷ []) tok.to text _ (Adjoin-push _ _ _ _ _ before.adjoin found.0 found.1) (plain_adjoin _ _ _ _ (omega (arith, plain.after)) plain.plain);
      };
    }

-- a token lies in the file
pub plain_end-place-requires-in-Ok : goal.plain_end-place-requires-in-Ok
plain_end-place-requires-in-Ok c = (extends _ _ _ _ c.in-Ok.ensures.1).within
