-- What a cursor stands for: a file, and the tokens from a place on in it. This is the crate's own.
use Rattle.std.specs.Prelude.{◌≡◌, ℕ, List, [], ◌∷◌, Option, Some, None}
use Rattle.job_lex.specs.declared.token.Tok.{Tok}
use Rattle.job_lex.specs.declared.cursor.Cursor.{Cursor}

-- the bytes of the file
abbrev pub bytes_of : Cursor → List ℕ
bytes_of cursor = cursor.bytes.now

-- the tokens from the cursor on
abbrev pub toks_of : Cursor → List Tok
toks_of cursor = cursor.ahead.toks

-- the first of some tokens and a cursor behind it, if there are any
abbrev pub IsFirst : Option (Tok × Cursor) → List Tok → Type 0
IsFirst None toks = toks ≡ []
IsFirst (Some x) toks = toks ≡ x.0 ∷ toks_of x.1
