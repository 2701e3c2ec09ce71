-- The tokens of the grammar that plain text is, one for each of its bytes. This is the crate's own.
use Rattle.std.specs.Prelude.{ℕ, zero, suc, ◌+◌, List, [], ◌∷◌, slice_index, nat_lt, if◌then◌else◌}
use Rattle.job_reading.specs.declared.token.Token.{Token}
use Rattle.job_reading.specs.declared.token.Lexeme.{Lexeme}
use Rattle.job_reading.specs.declared.token.Lexeme.TheVariants.{Char, Space}

-- what a byte of plain text is; its blanks are the bytes up to 32
abbrev pub plain_lexeme : ℕ → Lexeme
plain_lexeme b = if nat_lt 32 b then Char b else Space

-- the token that the byte at a place is
abbrev pub plain_token : List ℕ → ℕ → Token
plain_token bytes place = record { lexeme = plain_lexeme (slice_index bytes place); from = place; to = place + 1 }

-- the tokens that so many bytes are, from a place on
unfoldable pub plain_tokens : List ℕ → ℕ → ℕ → List Token
plain_tokens bytes place zero = []
plain_tokens bytes place (suc count) = plain_token bytes place ∷ plain_tokens bytes (place + 1) count
