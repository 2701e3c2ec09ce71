-- The parts of a paragraph, token by token (TeX: The Program, sections 1030 to 1120).
use Rattle.std.specs.Prelude.{ℕ, ◌==◌, List, [], ◌∷◌, ◌++◌, length, Option, Some, None, Result, Ok, if◌then◌else◌}
use Rattle.micro_num.specs.declared.part.Part.{Part}
use Rattle.micro_num.specs.declared.part.Part.TheVariants.{Char as char_part, Space as space_part, Normal as normal_part, Tie as tie_part, Kern as kern_part, Skip as skip_part, Penalty as penalty_part, Hyphen as hyphen_part, Disc as disc_part, Font as font_part}
use Rattle.job_reading.specs.declared.token.Token.{Token}
use Rattle.job_reading.specs.declared.token.Lexeme.{Lexeme}
use Rattle.job_reading.specs.declared.token.Lexeme.TheVariants.{Char as byte, Symbol, Letter, Word as command_word, Name, Space, EmptyLine, Open, Close, Tie}
use Rattle.job_reading.specs.declared.word.Word.{Word}
use Rattle.job_reading.specs.declared.word.Word.TheVariants.{ParEnd, Relax, Noindent, Bye, End, Char as char_word, Kern, Hskip, Penalty, Discretionary, Parshape, Declaration, Integer, Dimension, Glue}
use Rattle.job_text.specs.declared.groups.Group.{Group}
use Rattle.job_text.specs.declared.setting.Setting.{Setting}
use Rattle.job_reading.specs.declared.fault.Fault.{Fault}
use Rattle.job_reading.specs.declared.fault.JobFaultKind.TheVariants.{UnknownWord, AssignmentInParagraph, NoFont, StrayBrace}
use Rattle.job_reading.specs.Reading.{Reading, ◌>>=◌, fault}
use Rattle.job_reading.specs.Numbers.{number, natural}
use Rattle.job_text.specs.Discretionaries.{is_character_symbol, group}
use Rattle.job_reading.specs.Lengths.{dimension, glue}
use Rattle.job_text.specs.Names.{font_named}
use Rattle.job_reading.specs.GrammarTokens.{name_of}

-- one more part
abbrev pub add_part : Setting → ℕ → Part → Setting
add_part setting offset part = record { parts = setting.parts ++ record { offset = offset; part = part } ∷ []; current = setting.current; groups = setting.groups }

abbrev pub with_font : Setting → ℕ → Option ℕ → Setting
with_font setting offset None = setting
with_font setting offset (Some font) = add_part setting offset (font_part font)

-- a Font part of the current font, if there is one
abbrev pub with_current : Setting → ℕ → Setting
with_current setting offset = with_font setting offset setting.current

abbrev pub font_or_fault : ℕ → Option ℕ → Result (Unit {0}) Fault
font_or_fault offset None = fault NoFont offset
font_or_fault offset (Some font) = Ok tt

-- text needs a current font
abbrev pub require_font : Setting → ℕ → Result (Unit {0}) Fault
require_font setting offset = font_or_fault offset setting.current

-- a part that needs a current font
unfoldable pub text : Setting → ℕ → Part → List Token → Reading Setting
text setting from part toks = require_font setting from >>= λ _. Ok (add_part setting from part, toks)

-- a backslash and a byte that is no letter
unfoldable pub symbol : Setting → ℕ → ℕ → List Token → Reading Setting
symbol setting from code toks =
    if is_character_symbol code then text setting from (char_part code) toks
    else (if code == 32 then text setting from normal_part toks
    else (if code == 45 then text setting from hyphen_part toks
    else fault UnknownWord from))

-- a group remembers the current font
unfoldable pub open_group : Setting → ℕ → List Token → Reading Setting
open_group setting from toks = Ok (with_current (record setting { groups = record { font = setting.current; brace = from } ∷ setting.groups }) from, toks)

abbrev pub close_innermost : Setting → ℕ → List Token → List Group → Reading Setting
close_innermost setting from toks [] = fault StrayBrace from
close_innermost setting from toks (group ∷ groups) = Ok (with_current (record setting { current = group.font; groups = groups }) from, toks)

-- where a group closes, the font that it remembers becomes current
unfoldable pub close_group : Setting → ℕ → List Token → Reading Setting
close_group setting from toks = close_innermost setting from toks setting.groups

abbrev pub select_named : Setting → ℕ → List Token → Option ℕ → Reading Setting
select_named setting from toks None = fault UnknownWord from
select_named setting from toks (Some font) = Ok (with_current (record setting { current = Some font }) from, toks)

-- a font word selects its font; no other word of these has a meaning
unfoldable pub font_word : List ℕ → List (List ℕ) → Setting → Token → List Token → Reading Setting
font_word bytes names setting tok toks = select_named setting tok.from toks (font_named names (name_of bytes tok))

-- the three groups of a discretionary
unfoldable pub discretionary : ℕ → Setting → ℕ → List Token → Reading Setting
discretionary end setting from toks =
    require_font setting from >>= λ _.
    group end toks >>= λ pre.
    group end pre.1 >>= λ post.
    group end post.1 >>= λ whole.
    Ok (add_part setting from (disc_part (record { pre = pre.0; post = post.0; whole = whole.0 })), whole.1)

-- A control word in a paragraph. A declaration or a parameter has no place there.
unfoldable pub command : ℕ → Setting → ℕ → Word → List Token → Reading Setting
command end setting from ParEnd toks = Ok (setting, toks)
command end setting from Bye toks = Ok (setting, toks)
command end setting from End toks = Ok (setting, toks)
command end setting from Noindent toks = Ok (setting, toks)
command end setting from Relax toks = Ok (with_current setting from, toks)
command end setting from char_word toks = require_font setting from >>= λ _. natural 0 255 end toks >>= λ x. Ok (add_part setting from (char_part x.0), x.1)
command end setting from Kern toks = dimension end toks >>= λ x. Ok (add_part setting from (kern_part x.0), x.1)
command end setting from Hskip toks = glue end toks >>= λ x. Ok (add_part setting from (skip_part x.0), x.1)
command end setting from Penalty toks = number end toks >>= λ x. Ok (add_part setting from (penalty_part x.0), x.1)
command end setting from Discretionary toks = discretionary end setting from toks
command end setting from Parshape toks = fault AssignmentInParagraph from
command end setting from (Declaration word) toks = fault AssignmentInParagraph from
command end setting from (Integer word) toks = fault AssignmentInParagraph from
command end setting from (Dimension word) toks = fault AssignmentInParagraph from
command end setting from (Glue word) toks = fault AssignmentInParagraph from

abbrev pub part_of : List ℕ → List (List ℕ) → Setting → Token → List Token → Lexeme → Reading Setting
part_of bytes names setting tok toks (byte code) = text setting tok.from (char_part code) toks
part_of bytes names setting tok toks Space = text setting tok.from space_part toks
part_of bytes names setting tok toks Tie = text setting tok.from tie_part toks
part_of bytes names setting tok toks (Symbol code) = symbol setting tok.from code toks
part_of bytes names setting tok toks Open = open_group setting tok.from toks
part_of bytes names setting tok toks Close = close_group setting tok.from toks
part_of bytes names setting tok toks (Letter code) = font_word bytes names setting tok toks
part_of bytes names setting tok toks Name = font_word bytes names setting tok toks
part_of bytes names setting tok toks (command_word word) = command (length bytes) setting tok.from word toks
part_of bytes names setting tok toks EmptyLine = Ok (setting, toks)

-- the part that a token begins, in the file of these bytes with fonts declared by these names
unfoldable pub part : List ℕ → List (List ℕ) → Setting → Token → List Token → Reading Setting
part bytes names setting tok toks = part_of bytes names setting tok toks tok.lexeme
