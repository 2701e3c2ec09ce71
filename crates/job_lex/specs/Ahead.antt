-- The tokens that lie ahead at a place in a file. This is the crate's own.
use Rattle.std.specs.Prelude.{◌≡◌, ℕ, List, length}
use Rattle.std.specs.Coded.{Coded-set, coded_list}
use mathlib.Core.Logic.{∥∥₁_elim, ∥∥₁_prop}
use Rattle.std.proofs.Common.{subst}
use Rattle.job_lex.specs.contracts.token.Tok as tok_row
use Rattle.job_lex.specs.declared.token.Tok.{Tok}
use Rattle.job_lex.specs.Tokens.{Adjoin}

-- tokens from a place up to the end of the file
abbrev pub Reach : List ℕ → ℕ → List Tok → Type 0
Reach bytes place toks = ∥ Adjoin bytes place toks (length bytes) ∥₁

-- no other tokens go from a place up to the end
abbrev pub AreOnly : List ℕ → ℕ → List Tok → Type 0
AreOnly bytes place toks = (others : List Tok) → Adjoin bytes place others (length bytes) → toks ≡ others

-- the one list of tokens from a place up to the end
pub record TokensFrom (bytes : List ℕ) (place : ℕ) : Type 0 where
  pub toks : List Tok
  pub reach : Reach bytes place toks
  pub only : AreOnly bytes place toks

-- lists of tokens are equal in one way
pub toks_set : IsSet (List Tok)
toks_set = Coded-set (coded_list tok_row.the_row.coded)

AreOnly-prop : (bytes : List ℕ) (place : ℕ) (toks : List Tok) → IsProp (AreOnly bytes place toks)
AreOnly-prop bytes place toks one two = λ i. λ others adjoin. toks_set toks others (one others adjoin) (two others adjoin) i

abbrev made : (bytes : List ℕ) (place : ℕ) (toks : List Tok) → Reach bytes place toks → AreOnly bytes place toks → TokensFrom bytes place
made bytes place toks reach only = record { toks = toks; reach = reach; only = only }

one_record : (bytes : List ℕ) (place : ℕ) (toks others : List Tok) → toks ≡ others → (reach : Reach bytes place toks) (only : AreOnly bytes place toks) (reach' : Reach bytes place others) (only' : AreOnly bytes place others) → made bytes place toks reach only ≡ made bytes place others reach' only'
one_record bytes place toks others same reach only =
    subst (λ (others : List Tok). (reach' : Reach bytes place others) (only' : AreOnly bytes place others) → made bytes place toks reach only ≡ made bytes place others reach' only') same
    (λ reach' only'. λ i. made bytes place toks (∥∥₁_prop reach reach' i) (AreOnly-prop bytes place toks only only' i))

-- there is one such list at most
pub TokensFrom-prop : (bytes : List ℕ) (place : ℕ) → IsProp (TokensFrom bytes place)
TokensFrom-prop bytes place x y = one_record bytes place x.toks y.toks (∥∥₁_elim y.reach (toks_set x.toks y.toks) (x.only y.toks)) x.reach x.only y.reach y.only
