-- The declarations that say something of a font, which a font word names (pdfTeX manual).
use Rattle.std.specs.Prelude.{ℕ, ℤ, Bool, true, false, nat_lt, List, [], ◌∷◌, length, slice_get, Option, Some, None, Result, Ok, unwrap_or, if◌then◌else◌}
use Rattle.job_reading.specs.declared.token.Token.{Token}
use Rattle.job_reading.specs.declared.fault.Fault.{Fault}
use Rattle.job_reading.specs.declared.fault.JobFaultKind.TheVariants.{FontNotDeclared, TooManyCells, NameTaken}
use Rattle.job_reading.specs.Lexemes.{keyword, is_name}
use Rattle.job_reading.specs.Reading.{Reading, ◌>>=◌, fault, equals}
use Rattle.job_reading.specs.Numbers.{number, natural}
use Rattle.job_text.specs.declared.font_words.CodeTable.{CodeTable}
use Rattle.job_text.specs.declared.font_words.CodeTable.TheVariants.{Left, Right, Factor}
use Rattle.job_text.specs.Names.{font_named}
use Rattle.job_reading.specs.GrammarTokens.{name_of}
use Rattle.job_text.specs.Fonts.{Font, Limits, change_font, with_left, with_right, with_factor, with_hyphen, with_expand, is_expanded, hang_of, factor_of, whole_limits, step_count}

abbrev pub found_font : ℕ → List Token → Option ℕ → Reading ℕ
found_font from toks None = fault FontNotDeclared from
found_font from toks (Some font) = Ok (font, toks)

-- a declared font word
unfoldable pub wanted_font : List ℕ → List (List ℕ) → List Token → Reading ℕ
wanted_font bytes names [] = fault FontNotDeclared (length bytes)
wanted_font bytes names (tok ∷ toks) =
    if is_name tok.lexeme then found_font tok.from toks (font_named names (name_of bytes tok))
    else fault FontNotDeclared tok.from

-- a font, a code of it, and a value
pub record FontCode : Type 0 where
  pub font : ℕ
  pub code : ℕ
  pub value : ℤ

-- a font word, a number 0 to 255, equals, and a number
unfoldable pub font_code : List ℕ → List (List ℕ) → List Token → Reading FontCode
font_code bytes names toks =
    wanted_font bytes names toks >>= λ font.
    natural 0 255 (length bytes) font.1 >>= λ code.
    number (length bytes) (equals code.1) >>= λ value.
    Ok (record { font = font.0; code = code.0; value = value.0 }, value.1)

-- a value in a table of a font, brought into its range
abbrev pub with_code : CodeTable → ℕ → ℤ → Font → Font
with_code Left code value = with_left code (hang_of value)
with_code Right code value = with_right code (hang_of value)
with_code Factor code value = with_factor code (factor_of value)

unfoldable pub assign_code : CodeTable → List ℕ → List (List ℕ) → List Font → List Token → Reading (List Font)
assign_code table bytes names fonts toks = font_code bytes names toks >>= λ x. Ok (change_font fonts x.0.font (with_code table x.0.code x.0.value), x.1)

-- a font word, equals, and a number
unfoldable pub hyphen_character : List ℕ → List (List ℕ) → List Font → List Token → Reading (List Font)
hyphen_character bytes names fonts toks =
    wanted_font bytes names toks >>= λ font.
    number (length bytes) (equals font.1) >>= λ value.
    Ok (change_font fonts font.0 (with_hyphen value.0), value.1)

abbrev pub once : ℕ → Bool → Result (Unit {0}) Fault
once from true = fault NameTaken from
once from false = Ok tt

abbrev pub few_steps : ℕ → Limits → Result Limits Fault
few_steps from limits = if nat_lt 128 (step_count limits) then fault TooManyCells from else Ok limits

-- the letters of `autoexpand`
abbrev pub autoexpand_letters : List ℕ
autoexpand_letters = 97 ∷ 117 ∷ 116 ∷ 111 ∷ 101 ∷ 120 ∷ 112 ∷ 97 ∷ 110 ∷ 100 ∷ []

-- A font word, three numbers and optionally `autoexpand`, which changes nothing. A font has one expansion,
-- and at most 128 steps.
unfoldable pub expansion : List ℕ → List (List ℕ) → List Font → ℕ → List Token → Reading (List Font)
expansion bytes names fonts from toks =
    wanted_font bytes names toks >>= λ font.
    once from (is_expanded (slice_get fonts font.0)) >>= λ _.
    natural 0 1000 (length bytes) font.1 >>= λ stretch.
    natural 0 500 (length bytes) stretch.1 >>= λ shrink.
    natural 1 100 (length bytes) shrink.1 >>= λ step.
    few_steps from (whole_limits stretch.0 shrink.0 step.0) >>= λ limits.
    Ok (change_font fonts font.0 (with_expand limits), unwrap_or (keyword autoexpand_letters step.1) step.1)
