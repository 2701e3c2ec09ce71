-- The declaration of a font: `\font`, a word, a file's name and a size (TeX: The Program, section 1257).
use Rattle.std.specs.Prelude.{ℕ, ℤ, pos, int_lt, nat_lt, nat_le, List, [], ◌∷◌, ◌++◌, length, Option, Some, None, Ok, if◌then◌else◌}
use Rattle.font_stock.specs.declared.size.Size.{Size}
use Rattle.font_stock.specs.declared.size.Size.TheVariants.{Design, At, Scaled}
use Rattle.job_reading.specs.declared.token.Token.{Token}
use Rattle.job_reading.specs.declared.token.Lexeme.{Lexeme}
use Rattle.job_reading.specs.declared.token.Lexeme.TheVariants.{Letter, Word as command, Name}
use Rattle.job_reading.specs.declared.fault.JobFaultKind.TheVariants.{NumberPast, TooManyFonts, NameTaken, BadName}
use Rattle.job_reading.specs.Lexemes.{keyword, is_name_byte, byte_of}
use Rattle.job_reading.specs.Reading.{Reading, ◌>>=◌, place, fault, equals, skip_space}
use Rattle.job_reading.specs.Numbers.{natural}
use Rattle.job_reading.specs.Lengths.{dimension}
use Rattle.job_text.specs.Names.{font_named}
use Rattle.job_reading.specs.GrammarTokens.{name_of}
use Rattle.job_text.specs.Fonts.{Font, new_font}

abbrev pub new_name : Token → List Token → Option ℕ → Reading Token
new_name tok toks None = Ok (tok, toks)
new_name tok toks (Some font) = fault NameTaken tok.from

abbrev pub word_of_font : List ℕ → List (List ℕ) → Token → List Token → Lexeme → Reading Token
word_of_font bytes names tok toks (command word) = fault NameTaken tok.from
word_of_font bytes names tok toks (Letter code) = new_name tok toks (font_named names (name_of bytes tok))
word_of_font bytes names tok toks Name = new_name tok toks (font_named names (name_of bytes tok))
word_of_font bytes names tok toks _ = fault BadName tok.from

-- a control word without a meaning so far
unfoldable pub new_word : List ℕ → List (List ℕ) → List Token → Reading Token
new_word bytes names [] = fault BadName (length bytes)
new_word bytes names (tok ∷ toks) = word_of_font bytes names tok toks tok.lexeme

-- the bytes of a file's name, which are letters, digits and `-`, and the tokens behind them
abbrev pub name_bytes : List Token → List ℕ
name_bytes [] = []
name_bytes (tok ∷ toks) = if is_name_byte tok.lexeme then byte_of tok.lexeme ∷ name_bytes toks else []

abbrev pub behind_name : List Token → List Token
behind_name [] = []
behind_name (tok ∷ toks) = if is_name_byte tok.lexeme then behind_name toks else tok ∷ toks

abbrev pub file_name_of : ℕ → List ℕ → List Token → Reading (List ℕ)
file_name_of first [] toks = fault BadName first
file_name_of first (byte ∷ bytes) toks = if nat_lt 40 (length (byte ∷ bytes)) then fault BadName first else Ok (byte ∷ bytes, toks)

-- a file's name of 1 to 40 bytes
unfoldable pub file_name : ℕ → List Token → Reading (List ℕ)
file_name end toks = file_name_of (place end toks) (name_bytes toks) (behind_name toks)

abbrev pub positive : ℕ → ℤ → List Token → Reading Size
positive first size toks = if int_lt size (pos 1) then fault NumberPast first else Ok (At size, toks)

abbrev pub size_scaled : ℕ → List Token → Option (List Token) → Reading Size
size_scaled end toks None = Ok (Design, toks)
size_scaled end toks (Some scaled) = natural 1 32768 end scaled >>= λ by. Ok (Scaled by.0, by.1)

abbrev pub size_at : ℕ → List Token → Option (List Token) → Option (List Token) → Reading Size
size_at end toks None scaled = size_scaled end toks scaled
size_at end toks (Some at) scaled = dimension end at >>= λ size. positive (place end at) size.0 size.1

abbrev pub at_letters : List ℕ
at_letters = 97 ∷ 116 ∷ []

abbrev pub scaled_letters : List ℕ
scaled_letters = 115 ∷ 99 ∷ 97 ∷ 108 ∷ 101 ∷ 100 ∷ []

-- `at` and a dimension of 1 sp or more, `scaled` and a number 1 to 32768, or neither
unfoldable pub size : ℕ → List Token → Reading Size
size end toks = size_at end toks (keyword at_letters toks) (keyword scaled_letters toks)

-- the fonts with one more, and their names
pub record FontsAndNames : Type 0 where
  pub fonts : List Font
  pub names : List (List ℕ)

-- A word, equals, a file's name, an optional Space and a size declare a font; there are at most 32.
unfoldable pub font : List ℕ → List (List ℕ) → List Font → ℕ → List Token → Reading FontsAndNames
font bytes names fonts from toks =
    if nat_le 32 (length names) then fault TooManyFonts from
    else (
    new_word bytes names toks >>= λ word.
    file_name (length bytes) (equals word.1) >>= λ file.
    size (length bytes) (skip_space file.1) >>= λ asked.
    Ok (record { fonts = fonts ++ new_font file.0 asked.0 ∷ []; names = names ++ name_of bytes word.0 ∷ [] }, asked.1))
