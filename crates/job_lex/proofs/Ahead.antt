-- The tokens from a place on: the first of them and those behind it, and when there are none.
use Rattle.std.proofs.Common.{◌≡◌, ℕ, ◌<◌, ◌≤◌, List, [], ◌∷◌, length, refl, sym, ◌∙◌, subst, arith}
use mathlib.Core.Logic.{∥∥₁_elim}
use Rattle.job_lex.specs.declared.token.Tok.{Tok}
use Rattle.job_lex.specs.declared.fault.LexFaultKind.{LexFaultKind}
use Rattle.job_lex.specs.Tokens.{IsToken, IsOfKind, Adjoin, AreTokens, IsCovered, IsStop}
use Rattle.job_lex.specs.Ahead.{AreOnly, TokensFrom, TokensFrom-prop, toks_set}
use Rattle.job_lex.proofs.Once.{whole, once, extends, Adjoin-once, no_token_at_stop}

-- tokens up to the end are the only ones
are_only : (bytes : List ℕ) (place : ℕ) (toks : List Tok) → Adjoin bytes place toks (length bytes) → AreOnly bytes place toks
are_only bytes place toks adjoin = λ others other. (Adjoin-once bytes place toks others _ _ adjoin other (whole refl) (whole refl)).0

-- a file that is covered has tokens from its start on
pub from_start : (bytes : List ℕ) → IsCovered bytes (length bytes) → TokensFrom bytes 0
from_start bytes covered = record { toks = covered.toks; reach = ∣ covered.adjoin ∣₁; only = are_only bytes 0 covered.toks covered.adjoin }

pub all_are_tokens : (bytes : List ℕ) (covered : IsCovered bytes (length bytes)) (all : TokensFrom bytes 0) → AreTokens bytes all.toks
all_are_tokens bytes covered all = subst (AreTokens bytes) (sym (all.only covered.toks covered.adjoin)) covered.adjoin

-- where a token begins before the end, there are tokens behind it
behind_first : (bytes : List ℕ) (place : ℕ) (toks : List Tok) (tok : Tok) → Adjoin bytes place toks (length bytes) → place < length bytes → tok.from ≡ place → IsToken bytes tok → TokensFrom bytes tok.to
behind_first bytes place [] tok adjoin inside from is = absurd (omega (arith, adjoin))
behind_first bytes place (first ∷ toks) tok adjoin inside from is =
    let begins : first.from ≡ tok.from = adjoin.0 ∙ sym from in
    let same = once bytes tok.from first.to tok.to first.kind tok.kind (subst (λ (at : ℕ). IsOfKind bytes at first.to first.kind) begins adjoin.1) is in
    let behind = subst (λ (at : ℕ). Adjoin bytes at toks (length bytes)) same.ends adjoin.2 in
    record { toks = toks; reach = ∣ behind ∣₁; only = are_only bytes tok.to toks behind }

pub behind : (bytes : List ℕ) (place : ℕ) (tok : Tok) → TokensFrom bytes place → place < length bytes → tok.from ≡ place → IsToken bytes tok → TokensFrom bytes tok.to
behind bytes place tok before inside from is = ∥∥₁_elim before.reach (TokensFrom-prop bytes tok.to) (λ adjoin. behind_first bytes place before.toks tok adjoin inside from is)

-- and they are those of the place, without the first
pub first_is : (bytes : List ℕ) (place : ℕ) (tok : Tok) (before : TokensFrom bytes place) (more : TokensFrom bytes tok.to) → tok.from ≡ place → IsToken bytes tok → before.toks ≡ tok ∷ more.toks
first_is bytes place tok before more from is = ∥∥₁_elim more.reach (toks_set before.toks (tok ∷ more.toks)) (λ adjoin. before.only (tok ∷ more.toks) (from, is, adjoin))

-- at the end there are none
none_left : (bytes : List ℕ) (place : ℕ) (toks : List Tok) → Adjoin bytes place toks (length bytes) → length bytes ≤ place → toks ≡ []
none_left bytes place [] adjoin at_end = refl
none_left bytes place (tok ∷ toks) adjoin at_end =
    let range = extends bytes tok.from tok.to tok.kind adjoin.1 in
    absurd (omega (arith, adjoin.0, range.some, range.within))

pub none_at_end : (bytes : List ℕ) (place : ℕ) (before : TokensFrom bytes place) → length bytes ≤ place → before.toks ≡ []
none_at_end bytes place before at_end = ∥∥₁_elim before.reach (toks_set before.toks []) (λ adjoin. none_left bytes place before.toks adjoin at_end)

-- and where no token begins
none_begins : (bytes : List ℕ) (place : ℕ) (toks : List Tok) (kind : LexFaultKind) → Adjoin bytes place toks (length bytes) → IsStop bytes place kind → toks ≡ []
none_begins bytes place [] kind adjoin stop = refl
none_begins bytes place (tok ∷ toks) kind adjoin stop =
    absurd (no_token_at_stop bytes place tok.to kind tok.kind stop (subst (λ (at : ℕ). IsOfKind bytes at tok.to tok.kind) adjoin.0 adjoin.1))

pub none_at_stop : (bytes : List ℕ) (place : ℕ) (kind : LexFaultKind) (before : TokensFrom bytes place) → IsStop bytes place kind → before.toks ≡ []
none_at_stop bytes place kind before stop = ∥∥₁_elim before.reach (toks_set before.toks []) (λ adjoin. none_begins bytes place before.toks kind adjoin stop)
