-- The job: what its tokens say one after another, or the first fault among them.
-- The job language is this project's own, after TeX's main control (TeX: The Program, part 46).
use Rattle.std.specs.Prelude.{◌≡◌, ℕ, vec_len, Bool, ◌==◌, ◌||◌, nat_le, List, [], ◌∷◌, ◌++◌, length, Option, Some, None, is_some, Ok, if◌then◌else◌}
use Rattle.micro_num.specs.declared.paragraph.Par.{Par}
use Rattle.micro_num.specs.declared.params.Params.{Params}
use Rattle.micro_num.specs.declared.tables.Tables.{Tables}
use Rattle.micro_num.specs.Plain.{plain_params, plain_tables}
use Rattle.liang_hyph.specs.declared.source.Exception.{Exception}
use Rattle.job_reading.specs.declared.token.Token.{Token}
use Rattle.job_reading.specs.declared.token.Lexeme.{Lexeme}
use Rattle.job_reading.specs.declared.token.Lexeme.TheVariants.{Char as byte, Symbol, Letter, Word as command, Name, Space, EmptyLine, Open, Close, Tie}
use Rattle.job_reading.specs.declared.word.Word.{Word}
use Rattle.job_reading.specs.declared.word.Word.TheVariants.{ParEnd, Relax, Noindent, Bye, End, Char as char_word, Kern, Hskip, Penalty, Discretionary, Parshape, Declaration as declaration_word, Integer, Dimension, Glue}
use Rattle.job_reading.specs.declared.word.Declaration.{Declaration}
use Rattle.job_reading.specs.declared.word.Declaration.TheVariants.{Font as font_word, Lpcode, Rpcode, Efcode, Pdffontexpand, Hyphenchar, Sfcode, Lccode, Patterns, Hyphenation}
use Rattle.job_reading.specs.declared.fault.JobFaultKind.TheVariants.{UnknownWord, TooManyParagraphs, LateDeclaration, StrayBrace}
use Rattle.job_text.specs.declared.state.State.{State as ReaderState}
use Rattle.job_reading.specs.Lexemes.{ends_job}
use Rattle.job_reading.specs.Reading.{Reading, ◌>>=◌, fault}
use Rattle.job_text.specs.Discretionaries.{is_character_symbol}
use Rattle.job_text.specs.Names.{font_named}
use Rattle.job_reading.specs.GrammarTokens.{name_of}
use Rattle.job_text.specs.Fonts.{Font, fonts_of}
use Rattle.job_text.specs.declared.font_words.CodeTable.TheVariants.{Left, Right, Factor}
use Rattle.job_text.specs.FontWords.{assign_code, hyphen_character, expansion}
use Rattle.job_text.specs.FontDeclaration.{font}
use Rattle.job_text.specs.Shapes.{shape}
use Rattle.micro_num.specs.declared.shape.ShapeLine.{ShapeLine}
use Rattle.job_text.specs.Assignments.{behind_paragraph, space_factor, lower_case, assign_integer, assign_dimension, assign_glue}
use Rattle.job_text.specs.Hyphenation.{PatternText, patterns_of, patterns, exceptions}
use Rattle.job_text.specs.Paragraphs.{paragraph}
use Rattle.job_reading.specs.Repeats.{read_until}

-- what a job said so far: its fonts and their words, tables, patterns, exceptions and paragraphs, and the
-- parameters, the shape and the font that hold from here on
pub record State : Type 0 where
  pub fonts : List Font
  pub names : List (List ℕ)
  pub tables : Tables
  pub patterns : List PatternText
  pub exceptions : List Exception
  pub pars : List Par
  pub params : Params
  pub shape : List ShapeLine
  pub current : Option ℕ

abbrev pub state_of : ReaderState → State
state_of s = record { fonts = fonts_of s.fonts.items; names = s.names; tables = s.tables; patterns = patterns_of s.patterns; exceptions = s.exceptions; pars = s.pars; params = s.params; shape = s.shape; current = s.current }

-- each font has its word
abbrev pub AreCounted : ReaderState → Type 0
AreCounted s = length s.names ≡ vec_len s.fonts

-- what holds before a job says anything
abbrev pub start : State
start = record { fonts = []; names = []; tables = plain_tables; patterns = []; exceptions = []; pars = []; params = plain_params; shape = []; current = None }

-- A paragraph; there are at most 65,535. Behind it there is no shape, and the parameters that hold for a
-- paragraph alone are at their defaults.
unfoldable pub one_paragraph : List ℕ → State → ℕ → Option Token → List Token → Reading State
one_paragraph bytes state from first toks =
    if nat_le 65535 (length state.pars) then fault TooManyParagraphs from
    else (
    paragraph bytes state.names state.current from first toks >>= λ x.
    Ok (record state { pars = state.pars ++ record { params = state.params; indent = is_some first; shape = state.shape; parts = x.0.0 } ∷ []; params = behind_paragraph state.params; shape = []; current = x.0.1 }, x.1))

abbrev pub select_named : State → ℕ → List Token → Option ℕ → Reading State
select_named state from toks None = fault UnknownWord from
select_named state from toks (Some number) = Ok (record state { current = Some number }, toks)

-- a font word selects its font
unfoldable pub select : List ℕ → State → Token → List Token → Reading State
select bytes state tok toks = select_named state tok.from toks (font_named state.names (name_of bytes tok))

abbrev pub with_fonts : State → Reading (List Font) → Reading State
with_fonts state reading = reading >>= λ x. Ok (record state { fonts = x.0 }, x.1)

abbrev pub with_tables : State → Reading Tables → Reading State
with_tables state reading = reading >>= λ x. Ok (record state { tables = x.0 }, x.1)

abbrev pub with_params : State → Reading Params → Reading State
with_params state reading = reading >>= λ x. Ok (record state { params = x.0 }, x.1)

abbrev pub with_shape : State → Reading (List ShapeLine) → Reading State
with_shape state reading = reading >>= λ x. Ok (record state { shape = x.0 }, x.1)

-- a declaration, the word of which stands at a place
unfoldable pub declare_early : List ℕ → State → ℕ → Declaration → List Token → Reading State
declare_early bytes state from font_word toks = font bytes state.names state.fonts from toks >>= λ x. Ok (record state { fonts = x.0.fonts; names = x.0.names }, x.1)
declare_early bytes state from Lpcode toks = with_fonts state (assign_code Left bytes state.names state.fonts toks)
declare_early bytes state from Rpcode toks = with_fonts state (assign_code Right bytes state.names state.fonts toks)
declare_early bytes state from Efcode toks = with_fonts state (assign_code Factor bytes state.names state.fonts toks)
declare_early bytes state from Pdffontexpand toks = with_fonts state (expansion bytes state.names state.fonts from toks)
declare_early bytes state from Hyphenchar toks = with_fonts state (hyphen_character bytes state.names state.fonts toks)
declare_early bytes state from Sfcode toks = with_tables state (space_factor (length bytes) state.tables toks)
declare_early bytes state from Lccode toks = with_tables state (lower_case (length bytes) state.tables toks)
declare_early bytes state from Patterns toks = patterns (length bytes) state.tables.lccode state.patterns toks >>= λ x. Ok (record state { patterns = x.0 }, x.1)
declare_early bytes state from Hyphenation toks = exceptions (length bytes) state.tables.lccode state.exceptions toks >>= λ x. Ok (record state { exceptions = x.0 }, x.1)

-- declarations stand before the first paragraph
unfoldable pub declare : List ℕ → State → ℕ → Declaration → List Token → Reading State
declare bytes state from declaration toks = if length state.pars == 0 then declare_early bytes state from declaration toks else fault LateDeclaration from

-- a control word outside paragraphs
unfoldable pub word_step : List ℕ → State → Token → Word → List Token → Reading State
word_step bytes state tok ParEnd toks = Ok (state, toks)
word_step bytes state tok Relax toks = Ok (state, toks)
word_step bytes state tok Bye toks = Ok (state, toks)
word_step bytes state tok End toks = Ok (state, toks)
word_step bytes state tok Noindent toks = one_paragraph bytes state tok.from None toks
word_step bytes state tok char_word toks = one_paragraph bytes state tok.from (Some tok) toks
word_step bytes state tok Kern toks = one_paragraph bytes state tok.from (Some tok) toks
word_step bytes state tok Hskip toks = one_paragraph bytes state tok.from (Some tok) toks
word_step bytes state tok Penalty toks = one_paragraph bytes state tok.from (Some tok) toks
word_step bytes state tok Discretionary toks = one_paragraph bytes state tok.from (Some tok) toks
word_step bytes state tok Parshape toks = with_shape state (shape (length bytes) toks)
word_step bytes state tok (declaration_word declaration) toks = declare bytes state tok.from declaration toks
word_step bytes state tok (Integer parameter) toks = with_params state (assign_integer (length bytes) state.params parameter toks)
word_step bytes state tok (Dimension parameter) toks = with_params state (assign_dimension (length bytes) state.params parameter toks)
word_step bytes state tok (Glue parameter) toks = with_params state (assign_glue (length bytes) state.params parameter toks)

-- the symbols that are parts of a paragraph: characters, the control space and the hyphen
abbrev pub is_part_symbol : ℕ → Bool
is_part_symbol code = is_character_symbol code || code == 32 || code == 45

abbrev pub lexeme_step : List ℕ → State → Token → List Token → Lexeme → Reading State
lexeme_step bytes state tok toks Space = Ok (state, toks)
lexeme_step bytes state tok toks EmptyLine = Ok (state, toks)
lexeme_step bytes state tok toks Close = fault StrayBrace tok.from
lexeme_step bytes state tok toks (Letter code) = select bytes state tok toks
lexeme_step bytes state tok toks Name = select bytes state tok toks
lexeme_step bytes state tok toks (command word) = word_step bytes state tok word toks
lexeme_step bytes state tok toks (Symbol code) = if is_part_symbol code then one_paragraph bytes state tok.from (Some tok) toks else fault UnknownWord tok.from
lexeme_step bytes state tok toks (byte code) = one_paragraph bytes state tok.from (Some tok) toks
lexeme_step bytes state tok toks Tie = one_paragraph bytes state tok.from (Some tok) toks
lexeme_step bytes state tok toks Open = one_paragraph bytes state tok.from (Some tok) toks

-- what a token begins outside paragraphs; any part of a paragraph starts one
unfoldable pub job_step : List ℕ → State → Token → List Token → Reading State
job_step bytes state tok toks = lexeme_step bytes state tok toks tok.lexeme

-- what the tokens of a file say, up to `\bye`, `\end` or the end of the file
abbrev pub job_of : List ℕ → List Token → Reading State
job_of bytes toks = read_until ends_job (job_step bytes) start toks
