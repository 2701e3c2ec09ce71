-- The tokens that are left at a place in a file, and the first of them. This is the crate's own.
use Rattle.std.specs.Prelude.{◌≡◌, ℕ, ◌+◌, List, [], ◌∷◌, length, Option, Some, None}
use Rattle.job_reading.specs.declared.token.Token.{Token}
use Rattle.job_reading.specs.declared.rest.Rest.{Rest}
use Rattle.job_lex.specs.declared.token.Tok.{Tok}
use Rattle.job_lex.specs.Tokens.{AreTokens}
use Rattle.job_lex.specs.Cursors.{bytes_of, toks_of}
use Rattle.job_reading.specs.GrammarTokens.{grammar_from, grammar_tokens}

-- the tokens that are left
unfoldable pub left : Rest → List Token
left rest = grammar_from (bytes_of rest.cursor) rest.swallows (toks_of rest.cursor)

-- the tokens that are left are all of the grammar's in a file
pub record AreAllLeft (bytes : List ℕ) (rest : Rest) : Type 0 where
  pub toks : List Tok
  pub are_tokens : AreTokens bytes toks
  pub is : left rest ≡ grammar_tokens bytes toks

-- the first of some tokens and those behind it, if there are any
abbrev pub IsNext : Option (Token × Rest) → List Token → Type 0
IsNext None toks = toks ≡ []
IsNext (Some x) toks = (toks ≡ x.0 ∷ left x.1) × (length (left x.1) + 1 ≡ length toks)
