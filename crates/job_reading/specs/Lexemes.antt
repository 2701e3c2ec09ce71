-- What a token of the grammar is, as the rules ask it. The job language is this project's own, after TeX: a
-- token is of TeX: The Program, section 289, a keyword of section 407.
use Rattle.std.specs.Prelude.{◌≡◌, ℕ, ◌-◌, Bool, true, false, ◌==◌, ◌||◌, Option, Some, None, List, [], ◌∷◌, if◌then◌else◌}
use Rattle.std.specs.Char.{to_ascii_lowercase, is_ascii_digit, is_ascii_alphanumeric}
use Rattle.job_reading.specs.declared.token.Token.{Token}
use Rattle.job_reading.specs.declared.token.Lexeme.{Lexeme}
use Rattle.job_reading.specs.declared.token.Lexeme.TheVariants.{Char, Symbol, Letter, Word as command, Name, Space, EmptyLine, Open, Close}
use Rattle.job_reading.specs.declared.word.Word.{Word}
use Rattle.job_reading.specs.declared.word.Word.TheVariants.{ParEnd, Bye, End}

-- a value is found where it is there, and is the one wanted
abbrev pub Finds : Option ℕ → Bool → ℕ → Type 0
Finds None there wanted = there ≡ false
Finds (Some found) there wanted = (there ≡ true) × (found ≡ wanted)

-- a Char of this code
abbrev pub is_char : Lexeme → ℕ → Bool
is_char (Char own) code = own == code
is_char _ code = false

abbrev pub is_space : Lexeme → Bool
is_space Space = true
is_space _ = false

-- the code of a Char
abbrev pub byte_of : Lexeme → ℕ
byte_of (Char code) = code
byte_of _ = 0

-- a letter, a digit or `-`, of which the names of files are made
abbrev pub is_name_byte : Lexeme → Bool
is_name_byte (Char code) = is_ascii_alphanumeric code || code == 45
is_name_byte _ = false

abbrev pub is_byte : Lexeme → Bool
is_byte (Char code) = true
is_byte _ = false

abbrev pub word_ends_paragraph : Word → Bool
word_ends_paragraph ParEnd = true
word_ends_paragraph Bye = true
word_ends_paragraph End = true
word_ends_paragraph _ = false

-- an empty line, `\par`, `\bye` and `\end` end a paragraph, and are no part of it
abbrev pub ends_paragraph : Lexeme → Bool
ends_paragraph EmptyLine = true
ends_paragraph (command word) = word_ends_paragraph word
ends_paragraph _ = false

abbrev pub word_ends_job : Word → Bool
word_ends_job Bye = true
word_ends_job End = true
word_ends_job _ = false

-- `\bye` and `\end` end the job
abbrev pub ends_job : Lexeme → Bool
ends_job (command word) = word_ends_job word
ends_job _ = false

-- a control word without a meaning of its own, which may be a font word
abbrev pub is_name : Lexeme → Bool
is_name (Letter code) = true
is_name Name = true
is_name _ = false

abbrev pub is_open : Lexeme → Bool
is_open Open = true
is_open _ = false

abbrev pub is_close : Lexeme → Bool
is_close Close = true
is_close _ = false

-- a letter of a keyword, in either case
abbrev pub is_keyword_letter : Lexeme → ℕ → Bool
is_keyword_letter (Char code) letter = to_ascii_lowercase code == letter
is_keyword_letter _ letter = false

abbrev pub is_digit : Lexeme → Bool
is_digit (Char code) = is_ascii_digit code
is_digit _ = false

-- the value of a digit
abbrev pub digit_value : Lexeme → ℕ
digit_value (Char code) = code - 48
digit_value _ = 0

-- the value of a constant behind a backquote: the last byte of a Char, a Symbol or a Word of one letter
abbrev pub constant_value : Lexeme → Option ℕ
constant_value (Char code) = Some code
constant_value (Symbol code) = Some code
constant_value (Letter code) = Some code
constant_value _ = None

-- the lower-case code of a Char
abbrev pub keyword_letter : Lexeme → Option ℕ
keyword_letter (Char code) = Some (to_ascii_lowercase code)
keyword_letter _ = None

-- The tokens behind a keyword, which is Chars that are its letters in either case.
abbrev pub keyword : List ℕ → List Token → Option (List Token)
keyword [] toks = Some toks
keyword (letter ∷ letters) [] = None
keyword (letter ∷ letters) (tok ∷ toks) = if is_keyword_letter tok.lexeme letter then keyword letters toks else None
