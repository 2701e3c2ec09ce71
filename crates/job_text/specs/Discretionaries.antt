-- The groups of a discretionary, which hold codes (TeX: The Program, section 1117).
use Rattle.std.specs.Prelude.{ℕ, Bool, ◌==◌, ◌||◌, List, [], ◌∷◌, ◌++◌, Ok, if◌then◌else◌}
use Rattle.job_reading.specs.declared.token.Token.{Token}
use Rattle.job_reading.specs.declared.token.Lexeme.{Lexeme}
use Rattle.job_reading.specs.declared.token.Lexeme.TheVariants.{Char, Symbol, Word as command}
use Rattle.job_reading.specs.declared.word.Word.{Word}
use Rattle.job_reading.specs.declared.word.Word.TheVariants.{Char as char_word}
use Rattle.job_reading.specs.declared.fault.JobFaultKind.TheVariants.{BadDiscretionary}
use Rattle.job_text.specs.Braces.{in_braces}
use Rattle.job_reading.specs.Reading.{Reading, ◌>>=◌, fault}
use Rattle.job_reading.specs.Numbers.{natural}

-- `\%`, `\$`, `\&`, `\#`, `\_`, `\{` and `\}` stand for their second byte
abbrev pub is_character_symbol : ℕ → Bool
is_character_symbol code = code == 37 || code == 36 || code == 38 || code == 35 || code == 95 || code == 123 || code == 125

-- a control word in a group: `\char` and a number give a code
abbrev pub word_code : ℕ → ℕ → List Token → Word → Reading ℕ
word_code end from toks char_word = natural 0 255 end toks
word_code end from toks _ = fault BadDiscretionary from

abbrev pub lexeme_code : ℕ → ℕ → List Token → Lexeme → Reading ℕ
lexeme_code end from toks (Char code) = Ok (code, toks)
lexeme_code end from toks (Symbol code) = if is_character_symbol code then Ok (code, toks) else fault BadDiscretionary from
lexeme_code end from toks (command word) = word_code end from toks word
lexeme_code end from toks _ = fault BadDiscretionary from

-- the code that a token in a group begins
unfoldable pub code_at : ℕ → Token → List Token → Reading ℕ
code_at end tok toks = lexeme_code end tok.from toks tok.lexeme

-- one more code of a group
unfoldable pub code_step : ℕ → List ℕ → Token → List Token → Reading (List ℕ)
code_step end codes tok toks = code_at end tok toks >>= λ x. Ok (codes ++ x.0 ∷ [], x.1)

-- Spaces and a group of codes
unfoldable pub group : ℕ → List Token → Reading (List ℕ)
group end toks = in_braces end (code_step end) [] toks
