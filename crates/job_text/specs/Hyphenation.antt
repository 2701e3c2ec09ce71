-- Patterns and exceptions (F. M. Liang, Word Hy-phen-a-tion by Com-put-er; TeX: The Program, parts 42 and 43).
use Rattle.std.specs.Prelude.{ℕ, ◌-◌, Bool, true, false, ◌==◌, nat_le, List, [], ◌∷◌, ◌++◌, length, map, slice_index, Option, Some, None, is_some, unwrap_or, Ok, if◌then◌else◌}
use Rattle.std.specs.Char.{is_ascii_digit}
use Rattle.liang_hyph.specs.declared.source.Pattern.{Pattern}
use Rattle.liang_hyph.specs.declared.source.Exception.{Exception}
use Rattle.job_reading.specs.declared.token.Token.{Token}
use Rattle.job_reading.specs.declared.token.Lexeme.{Lexeme}
use Rattle.job_reading.specs.declared.token.Lexeme.TheVariants.{Char, Space, EmptyLine}
use Rattle.job_reading.specs.declared.fault.JobFaultKind.{JobFaultKind}
use Rattle.job_reading.specs.declared.fault.JobFaultKind.TheVariants.{BadPattern, BadException}
use Rattle.job_reading.specs.Lexemes.{is_byte, byte_of}
use Rattle.job_text.specs.Braces.{in_braces}
use Rattle.job_reading.specs.Reading.{Reading, fault}

-- a pattern: its letters, a value for each place between them and at the ends, and whether it is tied to
-- the beginning or the end of a word
pub record PatternText : Type 0 where
  pub letters : List ℕ
  pub values : List ℕ
  pub start : Bool
  pub end : Bool

abbrev pub pattern_text : Pattern → PatternText
pattern_text p = record { letters = p.letters; values = p.values; start = p.start; end = p.end }

abbrev pub patterns_of : List Pattern → List PatternText
patterns_of = map pattern_text

-- the codes of the Chars at the front, and the tokens behind them
abbrev pub run : List Token → List ℕ
run [] = []
run (tok ∷ toks) = if is_byte tok.lexeme then byte_of tok.lexeme ∷ run toks else []

abbrev pub behind_run : List Token → List Token
behind_run [] = []
behind_run (tok ∷ toks) = if is_byte tok.lexeme then behind_run toks else tok ∷ toks

-- a pattern has a letter
abbrev pub pattern_end : Bool → Bool → List ℕ → List ℕ → Option ℕ → Option PatternText
pattern_end start end [] values digit = None
pattern_end start end (letter ∷ letters) values digit = Some (record { letters = letter ∷ letters; values = values ++ unwrap_or digit 0 ∷ []; start = start; end = end })

abbrev pub pattern_end_at_dot : Bool → List ℕ → List ℕ → Option ℕ → List ℕ → Option PatternText
pattern_end_at_dot start letters values digit [] = pattern_end start true letters values digit
pattern_end_at_dot start letters values digit (code ∷ codes) = None

-- The pattern that the codes spell behind letters, values and maybe a digit: digits, never two in
-- succession, a `.` as the last code, and at most 63 letters, kept as their lower case. A place without
-- a digit has the value 0.
abbrev pub body : List ℕ → Bool → List ℕ → List ℕ → Option ℕ → List ℕ → Option PatternText
body lccode start letters values digit [] = pattern_end start false letters values digit
body lccode start letters values digit (code ∷ codes) =
    if is_ascii_digit code then (if is_some digit then None else body lccode start letters values (Some (code - 48)) codes)
    else (if code == 46 then pattern_end_at_dot start letters values digit codes
    else (if slice_index lccode code == 0 then None
    else (if nat_le 63 (length letters) then None
    else body lccode start (letters ++ slice_index lccode code ∷ []) (values ++ unwrap_or digit 0 ∷ []) None codes)))

-- a `.` as the first code ties the pattern to the beginning of a word
abbrev pub pattern_of : List ℕ → List ℕ → Option PatternText
pattern_of lccode [] = None
pattern_of lccode (code ∷ codes) =
    if code == 46 then body lccode true [] [] None codes
    else body lccode false [] [] None (code ∷ codes)

abbrev pub exception_end : List ℕ → List ℕ → Option Exception
exception_end [] places = None
exception_end (letter ∷ letters) places = Some (record { letters = letter ∷ letters; places = places })

-- a `-` stands between two letters
abbrev pub is_between : Bool → List ℕ → Bool
is_between hyphen [] = false
is_between hyphen (letter ∷ letters) = hyphen

-- The exception that the codes spell behind letters, places and maybe a `-`: at most 63 letters, kept as
-- their lower case, and a place for the `-` between two of them.
abbrev pub spelling : List ℕ → List ℕ → List ℕ → Bool → List ℕ → Option Exception
spelling lccode letters places hyphen [] = exception_end letters places
spelling lccode letters places hyphen (code ∷ codes) =
    if code == 45 then spelling lccode letters places true codes
    else (if slice_index lccode code == 0 then None
    else (if nat_le 63 (length letters) then None
    else spelling lccode (letters ++ slice_index lccode code ∷ []) (if is_between hyphen letters then places ++ length letters ∷ [] else places) false codes))

abbrev pub exception_of : List ℕ → List ℕ → Option Exception
exception_of lccode codes = spelling lccode [] [] false codes

-- one more in a list, or a fault at a place
abbrev pub add_entry : {A : Type 0} → JobFaultKind → ℕ → List A → Option A → List Token → Reading (List A)
add_entry kind from list None toks = fault kind from
add_entry kind from list (Some one) toks = Ok (list ++ one ∷ [], toks)

-- One more entry of a list, or what separates entries: Spaces and empty lines. What the codes of an entry spell
-- is told by spell.
abbrev pub entry_of : {A : Type 0} → JobFaultKind → (List ℕ → Option A) → List A → Token → List Token → Lexeme → Reading (List A)
entry_of kind spell list tok toks Space = Ok (list, toks)
entry_of kind spell list tok toks EmptyLine = Ok (list, toks)
entry_of kind spell list tok toks (Char code) = add_entry kind tok.from list (spell (run (tok ∷ toks))) (behind_run toks)
entry_of kind spell list tok toks _ = fault kind tok.from

unfoldable pub pattern_step : List ℕ → List PatternText → Token → List Token → Reading (List PatternText)
pattern_step lccode list tok toks = entry_of BadPattern (pattern_of lccode) list tok toks tok.lexeme

unfoldable pub exception_step : List ℕ → List Exception → Token → List Token → Reading (List Exception)
exception_step lccode list tok toks = entry_of BadException (exception_of lccode) list tok toks tok.lexeme

-- a group of patterns
unfoldable pub patterns : ℕ → List ℕ → List PatternText → List Token → Reading (List PatternText)
patterns end lccode list toks = in_braces end (pattern_step lccode) list toks

-- a group of exceptions
unfoldable pub exceptions : ℕ → List ℕ → List Exception → List Token → Reading (List Exception)
exceptions end lccode list toks = in_braces end (exception_step lccode) list toks
