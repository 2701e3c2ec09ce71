-- The tokens of the grammar: those of the file without gaps that mean nothing, each with what it is. This is the
-- language's own rule, after TeX's reading of a line (TeX: The Program, sections 343 to 356).
use Rattle.std.specs.Prelude.{ℕ, ◌+◌, Bool, true, false, ◌==◌, ◌&&◌, List, [], ◌∷◌, map, slice_index, slice_range, Option, Some, None, if◌then◌else◌}
use Rattle.std.specs.Str.{bytes_eq}
use Rattle.job_lex.specs.declared.token.Tok.{Tok}
use Rattle.job_lex.specs.declared.token.TokKind.{TokKind}
use Rattle.job_lex.specs.declared.token.TokKind.TheVariants.{Par as par_kind, Space as space_kind, Skip as skip_kind, Word as word_kind, Symbol as symbol_kind, Open as open_kind, Close as close_kind, Tie as tie_kind, Char as char_kind}
use Rattle.job_reading.specs.declared.token.Token.{Token}
use Rattle.job_reading.specs.declared.token.Lexeme.{Lexeme}
use Rattle.job_reading.specs.declared.token.Lexeme.TheVariants.{Char as byte, Symbol, Letter, Word as command, Name, Space, EmptyLine, Open, Close, Tie}
use Rattle.job_reading.specs.declared.word.Word.{Word}
use Rattle.job_reading.specs.declared.word.TheConstants.{RESERVED}

-- the name of a control word, without its backslash
abbrev pub name_of : List ℕ → Token → List ℕ
name_of bytes tok = slice_range bytes (tok.from + 1) tok.to

-- the word of this name in a table
abbrev pub lookup : List (List ℕ × Word) → List ℕ → Option Word
lookup [] name = None
lookup (entry ∷ entries) name = if bytes_eq entry.0 name then Some entry.1 else lookup entries name

-- the control word of this name that has a meaning of its own
unfoldable pub reserved : List ℕ → Option Word
reserved name = lookup (map (λ entry. (entry.0.now, entry.1)) RESERVED) name

abbrev pub reserved_lexeme : Option Word → Lexeme
reserved_lexeme None = Name
reserved_lexeme (Some word) = command word

-- what a control word of this name is
abbrev pub word_lexeme : List ℕ → Lexeme
word_lexeme [] = reserved_lexeme (reserved [])
word_lexeme (letter ∷ []) = Letter letter
word_lexeme (letter ∷ second ∷ letters) = reserved_lexeme (reserved (letter ∷ second ∷ letters))

-- what a token of a kind is, with its first byte at a place
abbrev pub kind_lexeme : List ℕ → ℕ → ℕ → TokKind → Lexeme
kind_lexeme bytes from to par_kind = EmptyLine
kind_lexeme bytes from to space_kind = Space
kind_lexeme bytes from to skip_kind = Space
kind_lexeme bytes from to word_kind = word_lexeme (slice_range bytes (from + 1) to)
kind_lexeme bytes from to symbol_kind = Symbol (slice_index bytes (from + 1))
kind_lexeme bytes from to open_kind = Open
kind_lexeme bytes from to close_kind = Close
kind_lexeme bytes from to tie_kind = Tie
kind_lexeme bytes from to char_kind = byte (slice_index bytes from)

abbrev pub lexeme_of : List ℕ → Tok → Lexeme
lexeme_of bytes tok = kind_lexeme bytes tok.from tok.to tok.kind

abbrev pub token_of : List ℕ → Tok → Token
token_of bytes tok = record { lexeme = lexeme_of bytes tok; from = tok.from; to = tok.to }

abbrev pub is_skip : TokKind → Bool
is_skip skip_kind = true
is_skip _ = false

abbrev pub is_blank_gap : TokKind → Bool
is_blank_gap space_kind = true
is_blank_gap _ = false

-- behind a control word and behind the control space a Space is left out
abbrev pub swallows_space : Lexeme → Bool
swallows_space (command word) = true
swallows_space (Letter code) = true
swallows_space Name = true
swallows_space (Symbol code) = code == 32
swallows_space _ = false

-- the tokens without Skips and without such Spaces, given whether the token before swallows a Space
abbrev pub grammar_from : List ℕ → Bool → List Tok → List Token
grammar_from bytes swallows [] = []
grammar_from bytes swallows (tok ∷ toks) =
    if is_skip tok.kind then grammar_from bytes swallows toks
    else (if is_blank_gap tok.kind && swallows then grammar_from bytes false toks
    else token_of bytes tok ∷ grammar_from bytes (swallows_space (lexeme_of bytes tok)) toks)

abbrev pub grammar_tokens : List ℕ → List Tok → List Token
grammar_tokens bytes toks = grammar_from bytes false toks
