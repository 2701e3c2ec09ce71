-- Plain text: bytes of which each is a token, as it and the byte behind it show. It is the crate's own way to the
-- tokens of most of a file.
use Rattle.std.specs.Prelude.{◌≡◌, ℕ, zero, suc, ◌+◌, ◌<◌, ◌≤◌, ◌⊎◌, List, [], ◌∷◌, length, slice_index, nat_lt, if◌then◌else◌}
use Rattle.job_lex.specs.declared.category.Category.TheVariants.{Blank, Letter, Other}
use Rattle.job_lex.specs.declared.token.TokKind.{TokKind}
use Rattle.job_lex.specs.declared.token.TokKind.TheVariants.{Space, Char}
use Rattle.job_lex.specs.declared.token.Tok.{Tok}
use Rattle.job_lex.specs.Category.{category}

-- a byte that stands for itself
abbrev pub IsText : ℕ → Type 0
IsText b = (category b ≡ Letter) ⊎ (category b ≡ Other)

abbrev pub IsBlank : ℕ → Type 0
IsBlank b = category b ≡ Blank

-- the first byte stands for itself, or is a blank and one that stands for itself comes behind it
abbrev pub IsPlainPair : ℕ → ℕ → Type 0
IsPlainPair b next = IsText b ⊎ (IsBlank b × IsText next)

-- the byte at a place is plain text
pub record IsPlain (bytes : List ℕ) (place : ℕ) : Type 0 where
  pub inside : place + 1 < length bytes
  pub pair : IsPlainPair (slice_index bytes place) (slice_index bytes (place + 1))

-- so is each from one place to before another
abbrev pub ArePlain : List ℕ → ℕ → ℕ → Type 0
ArePlain bytes from to = (k : ℕ) → from ≤ k → k < to → IsPlain bytes k

-- what kind of token a byte of plain text is; its blanks are the bytes up to 32
abbrev pub plain_kind : ℕ → TokKind
plain_kind b = if nat_lt 32 b then Char else Space

-- the token that the byte at a place is
abbrev pub plain_tok : List ℕ → ℕ → Tok
plain_tok bytes place = record { kind = plain_kind (slice_index bytes place); from = place; to = place + 1 }

-- the tokens that so many bytes are, from a place on
unfoldable pub plain_toks : List ℕ → ℕ → ℕ → List Tok
plain_toks bytes place zero = []
plain_toks bytes place (suc count) = plain_tok bytes place ∷ plain_toks bytes (place + 1) count
