-- A job that is read keeps what every job is kept to.
use Rattle.std.proofs.Common.{◌≡◌, ℕ, ◌≤◌, true, false, List, [], ◌∷◌, length, Option, Some, None, Result, Ok, Err, refl, sym, ap, ◌∙◌, subst, arith}
use Rattle.std.specs.Prelude.{◌==◌, All, nat_le, is_some, IfOk}
use Rattle.std.proofs.lemmas.Bool.{leb-false, eqb-true}
use Rattle.std.proofs.lemmas.List.{length-append, length-map, get_or-map}
use Rattle.std.proofs.lemmas.List.Elements.{All-nil, All-push, All-same}
use Rattle.micro_num.specs.declared.paragraph.Par.{Par}
use Rattle.micro_num.specs.declared.tables.Tables.{Tables}
use Rattle.micro_num.specs.declared.params.Params.{Params}
use Rattle.job_reading.specs.declared.token.Token.{Token}
use Rattle.job_reading.specs.declared.token.Lexeme.{Lexeme}
use Rattle.job_reading.specs.declared.token.Lexeme.TheVariants.{Char as byte, Symbol, Letter, Word as command, Name, Space, EmptyLine, Open, Close, Tie}
use Rattle.job_reading.specs.declared.word.Word.{Word}
use Rattle.job_reading.specs.declared.word.Word.TheVariants.{ParEnd, Relax, Noindent, Bye, End, Char as char_word, Kern, Hskip, Penalty, Discretionary, Parshape, Declaration as declaration_word, Integer, Dimension, Glue}
use Rattle.job_reading.specs.declared.word.Declaration.{Declaration}
use Rattle.job_reading.specs.declared.word.Declaration.TheVariants.{Font as font_word, Lpcode, Rpcode, Efcode, Pdffontexpand, Hyphenchar, Sfcode, Lccode, Patterns, Hyphenation}
use Rattle.job_text.specs.declared.font_words.CodeTable.TheVariants.{Left, Right, Factor}
use Rattle.job_text.specs.declared.font_decl.FontDecl.{FontDecl}
use Rattle.job_text.specs.declared.job.Job.{Job}
use Rattle.job_reading.specs.Lexemes.{ends_job}
use Rattle.job_reading.specs.Reading.{Reading}
use Rattle.job_text.specs.Names.{font_named}
use Rattle.job_reading.specs.GrammarTokens.{name_of}
use Rattle.job_text.specs.Fonts.{Font, font_of, fonts_of}
use Rattle.job_text.specs.FontDeclaration.{font}
use Rattle.job_text.specs.Hyphenation.{patterns, exceptions}
use Rattle.job_text.specs.Paragraphs.{paragraph}
use Rattle.job_text.specs.Job.{State, start, one_paragraph, select_named, select, with_fonts, with_tables, with_params, with_shape, declare_early, declare, word_step, is_part_symbol, lexeme_step, job_step, job_of}
use Rattle.job_reading.specs.GrammarTokens.{grammar_tokens}
use Rattle.job_text.specs.Answers.{Said, said_of, IsJobOf, IsAnswer}
use Rattle.job_reading.specs.declared.fault.JobFault.{JobFault}
use Rattle.job_text.specs.Fits.{PartsFit, ParamsFit, ShapeFits, JobFits}
use Rattle.job_reading.proofs.Keeping.{OnRead, OnRead-bind, OnRead-then, OnRead-cond, OnRead-if, OnRead-repeat, OnRead-of}
use Rattle.job_text.proofs.Bounds.{behind_paragraph_fits, assign_integer_fits, assign_dimension_fits, assign_glue_fits, plain_params_fit}
use Rattle.job_text.proofs.ShapesFitting.{no_shape_fits, shape_fits}
use Rattle.micro_num.specs.declared.shape.ShapeLine.{ShapeLine}
use Rattle.job_text.proofs.FontsFitting.{FontFits, FontsFit, code_fits, hyphen_fits, expansion_fits, DeclaredFits, font_fits}
use Rattle.job_text.proofs.PartsFitting.{IsCurrent, AreBounded, font_named_inside, ParFits, paragraph_fits}

-- what a job that is being read keeps
record StateFits (s : State) : Type 0 where
  counted : length s.names ≡ length s.fonts
  few : length s.fonts ≤ 32
  each : All FontFits s.fonts
  few_pars : length s.pars ≤ 65535
  pars : All (λ par. PartsFit (length s.names) false par.parts) s.pars
  current : IsCurrent (length s.names) s.current
  params : ParamsFit s.params
  all_params : All (λ par. ParamsFit par.params) s.pars
  bounded : All (λ par. AreBounded par.parts) s.pars
  shape : ShapeFits s.shape
  shapes : All (λ par. ShapeFits par.shape) s.pars

start_fits : StateFits start
start_fits = record {
  counted = refl;
  few = omega arith;
  each = All-nil FontFits;
  few_pars = omega arith;
  pars = All-nil (λ par. PartsFit 0 false par.parts);
  current = tt;
  params = plain_params_fit;
  all_params = All-nil (λ par. ParamsFit par.params);
  bounded = All-nil (λ par. AreBounded par.parts);
  shape = no_shape_fits;
  shapes = All-nil (λ par. ShapeFits par.shape);
}

paragraph_keeps : (bytes : List ℕ) (s : State) (from : ℕ) (first : Option Token) (toks : List Token) → StateFits s → OnRead StateFits (one_paragraph bytes s from first toks)
unfolding one_paragraph
paragraph_keeps bytes s from first toks fits =
    OnRead-if StateFits (nat_le 65535 (length s.pars)) _ _ (λ many. tt) (λ few.
    OnRead-then (ParFits (length s.names)) StateFits (paragraph bytes s.names s.current from first toks) _ (paragraph_fits bytes s.names s.current from first toks fits.current) (λ x par. record {
      counted = fits.counted;
      few = fits.few;
      each = fits.each;
      few_pars = omega (arith, length-append s.pars (record { params = s.params; indent = is_some first; shape = s.shape; parts = x.0.0 } ∷ []), leb-false 65535 (length s.pars) few);
      pars = All-push (λ p. PartsFit (length s.names) false p.parts) s.pars (record { params = s.params; indent = is_some first; shape = s.shape; parts = x.0.0 }) fits.pars par.parts;
      current = par.current;
      params = behind_paragraph_fits s.params fits.params;
      all_params = All-push (λ p. ParamsFit p.params) s.pars (record { params = s.params; indent = is_some first; shape = s.shape; parts = x.0.0 }) fits.all_params fits.params;
      bounded = All-push (λ p. AreBounded p.parts) s.pars (record { params = s.params; indent = is_some first; shape = s.shape; parts = x.0.0 }) fits.bounded par.bounded;
      shape = no_shape_fits;
      shapes = All-push (λ p. ShapeFits p.shape) s.pars (record { params = s.params; indent = is_some first; shape = s.shape; parts = x.0.0 }) fits.shapes fits.shape;
    }))

selected_keeps : (s : State) (from : ℕ) (toks : List Token) (font : Option ℕ) → IsCurrent (length s.names) font → StateFits s → OnRead StateFits (select_named s from toks font)
selected_keeps s from toks None inside fits = tt
selected_keeps s from toks (Some font) inside fits = assumption

select_keeps : (bytes : List ℕ) (s : State) (tok : Token) (toks : List Token) → StateFits s → OnRead StateFits (select bytes s tok toks)
unfolding select
select_keeps bytes s tok toks fits = selected_keeps s tok.from toks (font_named s.names (name_of bytes tok)) (font_named_inside s.names (name_of bytes tok)) fits

fonts_keep : (s : State) (reading : Reading (List Font)) → StateFits s → OnRead (FontsFit (length s.names)) reading → OnRead StateFits (with_fonts s reading)
fonts_keep s reading fits holds =
    OnRead-then (FontsFit (length s.names)) StateFits reading _ holds (λ x h. record {
      counted = sym h.counted;
      few = omega (arith, h.counted, fits.counted, fits.few);
      each = h.each;
      few_pars = fits.few_pars;
      pars = fits.pars;
      current = fits.current;
      params = fits.params;
      all_params = fits.all_params;
      bounded = fits.bounded;
      shape = fits.shape;
      shapes = fits.shapes;
    })

fonts_fit : (s : State) → StateFits s → FontsFit (length s.names) s.fonts
fonts_fit s fits = record { counted = sym fits.counted; each = fits.each }

tables_keep : (s : State) (reading : Reading Tables) → StateFits s → OnRead StateFits (with_tables s reading)
tables_keep s reading fits = OnRead-bind StateFits reading _ (λ x. assumption)

params_keep : (s : State) (reading : Reading Params) → StateFits s → OnRead ParamsFit reading → OnRead StateFits (with_params s reading)
params_keep s reading fits holds = OnRead-then ParamsFit StateFits reading _ holds (λ x params. assumption)

shape_keeps : (s : State) (reading : Reading (List ShapeLine)) → StateFits s → OnRead ShapeFits reading → OnRead StateFits (with_shape s reading)
shape_keeps s reading fits holds = OnRead-then ShapeFits StateFits reading _ holds (λ x shape. assumption)

current_more : (count more : ℕ) (current : Option ℕ) → count ≤ more → IsCurrent count current → IsCurrent more current
current_more count more None less inside = tt
current_more count more (Some font) less inside = omega (arith, less, inside)

-- a font is declared before the first paragraph, so no paragraph speaks of fewer fonts
declared_keeps : (bytes : List ℕ) (s : State) (from : ℕ) (word : Declaration) (toks : List Token) → s.pars ≡ [] → StateFits s → OnRead StateFits (declare_early bytes s from word toks)
unfolding declare_early
declared_keeps bytes s from font_word toks none fits =
    OnRead-then (DeclaredFits (length s.names)) StateFits (font bytes s.names s.fonts from toks) _ (font_fits bytes s.names s.fonts from toks fits.counted fits.each) (λ x h. record {
      counted = h.counted;
      few = h.few;
      each = h.each;
      few_pars = fits.few_pars;
      pars = All-same (λ p. PartsFit (length x.0.names) false p.parts) s.pars [] none (All-nil (λ p. PartsFit (length x.0.names) false p.parts));
      current = current_more (length s.names) (length x.0.names) s.current h.more fits.current;
      params = fits.params;
      all_params = fits.all_params;
      bounded = fits.bounded;
      shape = fits.shape;
      shapes = fits.shapes;
    })
declared_keeps bytes s from Lpcode toks none fits = fonts_keep s _ fits (code_fits (length s.names) Left bytes s.names s.fonts toks (fonts_fit s fits))
declared_keeps bytes s from Rpcode toks none fits = fonts_keep s _ fits (code_fits (length s.names) Right bytes s.names s.fonts toks (fonts_fit s fits))
declared_keeps bytes s from Efcode toks none fits = fonts_keep s _ fits (code_fits (length s.names) Factor bytes s.names s.fonts toks (fonts_fit s fits))
declared_keeps bytes s from Pdffontexpand toks none fits = fonts_keep s _ fits (expansion_fits (length s.names) bytes s.names s.fonts from toks (fonts_fit s fits))
declared_keeps bytes s from Hyphenchar toks none fits = fonts_keep s _ fits (hyphen_fits (length s.names) bytes s.names s.fonts toks (fonts_fit s fits))
declared_keeps bytes s from Sfcode toks none fits = tables_keep s _ fits
declared_keeps bytes s from Lccode toks none fits = tables_keep s _ fits
declared_keeps bytes s from Patterns toks none fits = OnRead-bind StateFits (patterns (length bytes) s.tables.lccode s.patterns toks) _ (λ x. assumption)
declared_keeps bytes s from Hyphenation toks none fits = OnRead-bind StateFits (exceptions (length bytes) s.tables.lccode s.exceptions toks) _ (λ x. assumption)

none_of : (pars : List Par) → (length pars == 0) ≡ true → pars ≡ []
none_of [] is = refl
none_of (par ∷ pars) is = absurd (omega (arith, eqb-true (length (par ∷ pars)) 0 is))

declare_keeps : (bytes : List ℕ) (s : State) (from : ℕ) (word : Declaration) (toks : List Token) → StateFits s → OnRead StateFits (declare bytes s from word toks)
unfolding declare
declare_keeps bytes s from word toks fits = OnRead-if StateFits (length s.pars == 0) _ _ (λ is. declared_keeps bytes s from word toks (none_of s.pars is) fits) (λ late. tt)

word_keeps : (bytes : List ℕ) (s : State) (tok : Token) (word : Word) (toks : List Token) → StateFits s → OnRead StateFits (word_step bytes s tok word toks)
unfolding word_step
word_keeps bytes s tok ParEnd toks fits = fits
word_keeps bytes s tok Relax toks fits = fits
word_keeps bytes s tok Bye toks fits = fits
word_keeps bytes s tok End toks fits = fits
word_keeps bytes s tok Noindent toks fits = paragraph_keeps bytes s tok.from None toks fits
word_keeps bytes s tok char_word toks fits = paragraph_keeps bytes s tok.from (Some tok) toks fits
word_keeps bytes s tok Kern toks fits = paragraph_keeps bytes s tok.from (Some tok) toks fits
word_keeps bytes s tok Hskip toks fits = paragraph_keeps bytes s tok.from (Some tok) toks fits
word_keeps bytes s tok Penalty toks fits = paragraph_keeps bytes s tok.from (Some tok) toks fits
word_keeps bytes s tok Discretionary toks fits = paragraph_keeps bytes s tok.from (Some tok) toks fits
word_keeps bytes s tok Parshape toks fits = shape_keeps s _ fits (shape_fits (length bytes) toks)
word_keeps bytes s tok (declaration_word word) toks fits = declare_keeps bytes s tok.from word toks fits
word_keeps bytes s tok (Integer parameter) toks fits = params_keep s _ fits (assign_integer_fits (length bytes) s.params parameter toks fits.params)
word_keeps bytes s tok (Dimension parameter) toks fits = params_keep s _ fits (assign_dimension_fits (length bytes) s.params parameter toks fits.params)
word_keeps bytes s tok (Glue parameter) toks fits = params_keep s _ fits (assign_glue_fits (length bytes) s.params parameter toks fits.params)

lexeme_keeps : (bytes : List ℕ) (s : State) (tok : Token) (toks : List Token) (lexeme : Lexeme) → StateFits s → OnRead StateFits (lexeme_step bytes s tok toks lexeme)
lexeme_keeps bytes s tok toks Space fits = fits
lexeme_keeps bytes s tok toks EmptyLine fits = fits
lexeme_keeps bytes s tok toks Close fits = tt
lexeme_keeps bytes s tok toks (Letter code) fits = select_keeps bytes s tok toks fits
lexeme_keeps bytes s tok toks Name fits = select_keeps bytes s tok toks fits
lexeme_keeps bytes s tok toks (command word) fits = word_keeps bytes s tok word toks fits
lexeme_keeps bytes s tok toks (Symbol code) fits = OnRead-cond StateFits (is_part_symbol code) _ _ (paragraph_keeps bytes s tok.from (Some tok) toks fits) tt
lexeme_keeps bytes s tok toks (byte code) fits = paragraph_keeps bytes s tok.from (Some tok) toks fits
lexeme_keeps bytes s tok toks Tie fits = paragraph_keeps bytes s tok.from (Some tok) toks fits
lexeme_keeps bytes s tok toks Open fits = paragraph_keeps bytes s tok.from (Some tok) toks fits

step_keeps : (bytes : List ℕ) (s : State) (tok : Token) (toks : List Token) → StateFits s → OnRead StateFits (job_step bytes s tok toks)
unfolding job_step
step_keeps bytes s tok toks fits = lexeme_keeps bytes s tok toks tok.lexeme fits

job_keeps : (bytes : List ℕ) (toks rest : List Token) (s : State) → job_of bytes toks ≡ Ok (s, rest) → StateFits s
job_keeps bytes toks rest s is = OnRead-of StateFits (job_of bytes toks) s rest (OnRead-repeat StateFits ends_job (job_step bytes) (step_keeps bytes) (length toks) start toks start_fits) is

-- what is true of each font that is seen is true of each declared one
All-fonts : (P : Font → Type 0) (fonts : List FontDecl) → All P (fonts_of fonts) → All (λ d. P (font_of d)) fonts
All-fonts P fonts all = λ k d inside. subst P (get_or-map font_of fonts k d (font_of d) inside) (all k (font_of d) (omega (arith, length-map fonts font_of)))

pub job_fits : (bytes : List ℕ) (job : Job) → IsJobOf bytes (said_of job) → JobFits job
job_fits bytes job is =
    let kept = job_keeps bytes (grammar_tokens bytes is.toks) is.rest is.state is.reads in
    let fonts : is.state.fonts ≡ fonts_of job.fonts = ap (λ (s : Said). s.fonts) is.is in
    let pars : is.state.pars ≡ job.pars = ap (λ (s : Said). s.pars) is.is in
    let each = All-fonts FontFits job.fonts (subst (All FontFits) fonts kept.each) in
    let count : length is.state.names ≡ length job.fonts = kept.counted ∙ ap length fonts ∙ length-map job.fonts font_of in
    record {
      few_fonts = omega (arith, count, kept.counted, kept.few);
      sizes = λ k d inside. (each k d inside).size;
      names = λ k d inside. (each k d inside).name;
      few_pars = omega (arith, ap length pars, kept.few_pars);
      pars = subst (λ (n : ℕ). All (λ p. PartsFit n false p.parts) job.pars) count (subst (All (λ p. PartsFit (length is.state.names) false p.parts)) pars kept.pars);
      params = subst (All (λ p. ParamsFit p.params)) pars kept.all_params;
      shapes = subst (All (λ p. ShapeFits p.shape)) pars kept.shapes;
      bounded = subst (All (λ p. AreBounded p.parts)) pars kept.bounded;
    }

pub answer_fits : (bytes : List ℕ) (result : Result Job JobFault) → IsAnswer bytes result → IfOk result JobFits
answer_fits bytes (Ok job) answer = job_fits bytes job answer
answer_fits bytes (Err fault) answer = tt
