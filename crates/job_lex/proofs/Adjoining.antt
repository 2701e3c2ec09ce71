-- Lists of adjoining tokens: one more at the end, and one list after another.
use Rattle.std.proofs.Common.{◌≡◌, ℕ, List, [], ◌∷◌, ◌++◌, refl, sym, ◌∙◌, subst}
use Rattle.job_lex.specs.declared.token.Tok.{Tok}
use Rattle.job_lex.specs.Tokens.{IsToken, Adjoin}

pub Adjoin-push : (bytes : List ℕ) (from : ℕ) (toks : List Tok) (to : ℕ) (tok : Tok) → Adjoin bytes from toks to → tok.from ≡ to → IsToken bytes tok → Adjoin bytes from (toks ++ tok ∷ []) tok.to
Adjoin-push bytes from [] to tok adjoin begin is = (begin ∙ sym adjoin, is, refl)
Adjoin-push bytes from (first ∷ toks) to tok adjoin begin is = (adjoin.0, adjoin.1, Adjoin-push bytes first.to toks to tok adjoin.2 begin is)

-- one list after another
pub Adjoin-append : (bytes : List ℕ) (from : ℕ) (toks : List Tok) (middle : ℕ) (more : List Tok) (to : ℕ) → Adjoin bytes from toks middle → Adjoin bytes middle more to → Adjoin bytes from (toks ++ more) to
Adjoin-append bytes from [] middle more to adjoin other = subst (λ (at : ℕ). Adjoin bytes at more to) (sym adjoin) other
Adjoin-append bytes from (first ∷ toks) middle more to adjoin other = (adjoin.0, adjoin.1, Adjoin-append bytes first.to toks middle more to adjoin.2 other)
