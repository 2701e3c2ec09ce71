use Rattle.std.proofs.Common.{◌≡◌, ℕ, ◌≤◌, List, length, is_ok, sym, ap, ◌∙◌, subst, arith}
use Rattle.std.proofs.ResultArms.{chosen}
use Rattle.job_lex.specs.declared.token.Tok.{Tok}
use Rattle.job_lex.specs.Tokens.{Adjoin, AreTokens}
use Rattle.job_lex.proofs.Adjoining.{Adjoin-push}
use Rattle.job_lex.proofs.Once.{extends, AreTokens-once, tokens_or_fault, first_fault-once}
use Rattle.job_lex.proofs.lexer.tokens.Goals as goal

-- the token joins those before it
pub loop-place-preserved : goal.loop-place-preserved
loop-place-preserved c =
    let pushed = chosen _ _ _ _ c.push.ensures.items (ap is_ok c.in_ok-push.was) in
    let found = c.in-Ok.ensures in
    let range = extends _ _ _ _ found.1 in
    record {
      within = range.within;
      adjoin = subst (λ l. Adjoin c.args.bytes.now 0 l c.in-Ok.tok.to) (sym pushed) (Adjoin-push _ _ _ _ _ c.loop-place.invariant.adjoin found.0 found.1);
    }

pub returns-in-Err-clause-only : goal.returns-in-Err-clause-only
returns-in-Err-clause-only c = λ toks are. tokens_or_fault _ _ _ _ _ are c.loop-place.invariant.adjoin c.in-Err.ensures

pub returns-in-Err-clause-fault : goal.returns-in-Err-clause-fault
returns-in-Err-clause-fault c = λ place kind is. first_fault-once _ _ _ _ _ (record { before = c.loop-place.toks.items; adjoin = c.loop-place.invariant.adjoin; stop = c.in-Err.ensures }) is

-- tokens that have come to the end of the file cover it
whole_file : (bytes : List ℕ) (toks : List Tok) (to : ℕ) → Adjoin bytes 0 toks to → to ≤ length bytes → length bytes ≤ to → AreTokens bytes toks
whole_file bytes toks to adjoin within at_end = let same : to ≡ length bytes = omega arith in subst (λ (place : ℕ). Adjoin bytes 0 toks place) same adjoin

pub returns-clause-only : goal.returns-clause-only
returns-clause-only c = λ toks are. c.from_vec.ensures ∙ AreTokens-once _ _ _ (whole_file _ _ _ c.loop-place.invariant.adjoin c.loop-place.invariant.within c.loop-place-test.false) are

pub returns-clause-fault : goal.returns-clause-fault
returns-clause-fault c = λ place kind is. tokens_or_fault _ _ _ _ _ (whole_file _ _ _ c.loop-place.invariant.adjoin c.loop-place.invariant.within c.loop-place-test.false) is.adjoin is.stop
