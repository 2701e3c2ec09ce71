-- A paragraph that is read names declared fonts alone, has a font before each part that needs one, and its
-- kerns, glues and penalties are bounded.
use Rattle.std.proofs.Common.{◌≡◌, ℕ, ◌+◌, ◌<◌, Bool, true, false, cond, List, [], ◌∷◌, ◌++◌, length, Option, Some, None, Ok, ◌⊎◌, inl, inr, ⊎_elim, refl, sym, ap, ◌∙◌, subst, arith}
use Rattle.std.specs.Prelude.{◌||◌, ◌==◌, All}
use Rattle.std.proofs.lemmas.List.Elements.{All-nil, All-push}
use Rattle.std.specs.Str.{bytes_eq}
use Rattle.micro_num.specs.declared.paragraph.PartAt.{PartAt}
use Rattle.micro_num.specs.declared.part.Part.{Part}
use Rattle.micro_num.specs.declared.part.Part.TheVariants.{Char as char_part, Space as space_part, Normal as normal_part, Tie as tie_part, Hyphen as hyphen_part, Font as font_part}
use Rattle.job_reading.specs.declared.token.Token.{Token}
use Rattle.job_reading.specs.declared.token.Lexeme.{Lexeme}
use Rattle.job_reading.specs.declared.token.Lexeme.TheVariants.{Char as byte, Symbol, Letter, Word as command_word, Name, Space, EmptyLine, Open, Close, Tie}
use Rattle.job_reading.specs.declared.word.Word.{Word}
use Rattle.job_reading.specs.declared.word.Word.TheVariants.{ParEnd, Relax, Noindent, Bye, End, Char as char_word, Kern, Hskip, Penalty, Discretionary, Parshape, Declaration, Integer, Dimension, Glue}
use Rattle.job_text.specs.declared.groups.Group.{Group}
use Rattle.job_text.specs.declared.setting.Setting.{Setting}
use Rattle.job_reading.specs.Lexemes.{ends_paragraph}
use Rattle.job_reading.specs.Reading.{Reading, ◌>>=◌}
use Rattle.job_reading.specs.Numbers.{number, natural}
use Rattle.job_reading.specs.Lengths.{dimension, glue}
use Rattle.job_text.specs.Discretionaries.{is_character_symbol, group}
use Rattle.job_text.specs.Names.{font_from, font_named}
use Rattle.job_reading.specs.GrammarTokens.{name_of}
use Rattle.job_text.specs.Parts.{add_part, with_font, font_or_fault, text, symbol, open_group, close_innermost, close_group, select_named, font_word, discretionary, command, part_of, part}
use Rattle.job_reading.specs.Repeats.{repeat}
use Rattle.job_text.specs.Paragraphs.{start_setting, first_part, no_open_group, paragraph}
use Rattle.job_text.specs.Fits.{needs_font, is_font, NamesFont, PartsFit, IsBounded}
use Rattle.job_reading.specs.Bounds.{IsLength, IsNumber, IsGlue}
use Rattle.job_reading.proofs.Bounds.{number_bounded, dimension_bounded, glue_bounded}
use Rattle.job_reading.proofs.Keeping.{OnRead, OnRead-bind, OnRead-then, OnRead-cond, OnRead-repeat}

-- a current font is one of so many
abbrev pub IsCurrent : ℕ → Option ℕ → Type 0
IsCurrent count None = Unit {0}
IsCurrent count (Some font) = font < count

abbrev GroupsFit : ℕ → List Group → Type 0
GroupsFit count [] = Unit {0}
GroupsFit count (one ∷ groups) = IsCurrent count one.font × GroupsFit count groups

-- no group remembers a font
abbrev NoneRemembered : List Group → Type 0
NoneRemembered [] = Unit {0}
NoneRemembered (one ∷ groups) = (one.font ≡ None) × NoneRemembered groups

abbrev has_font : List PartAt → Bool
has_font [] = false
has_font (one ∷ parts) = is_font one.part || has_font parts

-- a Font part stands there, or there is no current font and no group remembers one
abbrev Begun : Setting → Type 0
Begun s = (has_font s.parts ≡ true) ⊎ ((s.current ≡ None) × NoneRemembered s.groups)

-- the kerns, glues and penalties are bounded
abbrev pub AreBounded : List PartAt → Type 0
AreBounded parts = All (λ one. IsBounded one.part) parts

pub record SettingFits (count : ℕ) (s : Setting) : Type 0 where
  pub current : IsCurrent count s.current
  pub groups : GroupsFit count s.groups
  pub parts : PartsFit count false s.parts
  pub begun : Begun s
  pub bounded : AreBounded s.parts

or-assoc : (a b c : Bool) → (a || (b || c)) ≡ ((a || b) || c)
or-assoc true b c = refl
or-assoc false b c = refl

or-true : (a : Bool) → (a || true) ≡ true
or-true true = refl
or-true false = refl

or-false : (a : Bool) → (a || false) ≡ a
or-false true = refl
or-false false = refl

PartsFit-push : (count : ℕ) (begun : Bool) (parts : List PartAt) (one : PartAt) → PartsFit count begun parts → NamesFont count one.part → (needs_font one.part ≡ true → (begun || has_font parts) ≡ true) → PartsFit count begun (parts ++ one ∷ [])
PartsFit-push count begun [] one fits names needs = (names, (λ h. sym (or-false begun) ∙ needs h), tt)
PartsFit-push count begun (first ∷ parts) one fits names needs =
    (fits.0, fits.1, PartsFit-push count (begun || is_font first.part) parts one fits.2 names (λ h. sym (or-assoc begun (is_font first.part) (has_font parts)) ∙ needs h))

has_font-push : (parts : List PartAt) (one : PartAt) → has_font (parts ++ one ∷ []) ≡ (has_font parts || is_font one.part)
has_font-push [] one = or-false (is_font one.part)
has_font-push (first ∷ parts) one = ap (λ (b : Bool). is_font first.part || b) (has_font-push parts one) ∙ or-assoc (is_font first.part) (has_font parts) (is_font one.part)

-- a part that is no Font part, where a font is current or the part needs none
plain_fits : (count : ℕ) (s : Setting) (offset : ℕ) (one : Part) → SettingFits count s → NamesFont count one → IsBounded one → (needs_font one ≡ true → has_font s.parts ≡ true) → is_font one ≡ false → SettingFits count (add_part s offset one)
plain_fits count s offset one fits names bounded needs no_font = record {
  current = fits.current;
  groups = fits.groups;
  parts = PartsFit-push count false s.parts (record { offset = offset; part = one }) fits.parts names needs;
  begun = ⊎_elim (λ has. inl (has_font-push s.parts (record { offset = offset; part = one }) ∙ ap (λ (b : Bool). b || is_font one) has)) (λ none. inr none) fits.begun;
  bounded = All-push (λ p. IsBounded p.part) s.parts (record { offset = offset; part = one }) fits.bounded bounded;
}

-- with a Font part the current font and those of the groups may be any
font_fits : (count : ℕ) (s : Setting) (offset font : ℕ) → PartsFit count false s.parts → AreBounded s.parts → IsCurrent count s.current → GroupsFit count s.groups → font < count → SettingFits count (add_part s offset (font_part font))
font_fits count s offset font parts bounded current groups inside = record {
  current = current;
  groups = groups;
  parts = PartsFit-push count false s.parts (record { offset = offset; part = font_part font }) parts inside (λ h. cc);
  begun = inl (has_font-push s.parts (record { offset = offset; part = font_part font }) ∙ or-true (has_font s.parts));
  bounded = All-push (λ p. IsBounded p.part) s.parts (record { offset = offset; part = font_part font }) bounded tt;
}

-- a Font part of the current font; where there is none, none must be remembered or a font stands there
current_fits : (count : ℕ) (s : Setting) (offset : ℕ) (current : Option ℕ) → s.current ≡ current → PartsFit count false s.parts → AreBounded s.parts → GroupsFit count s.groups → IsCurrent count current → (current ≡ None → Begun s) → SettingFits count (with_font s offset current)
current_fits count s offset None is parts bounded groups inside begun = record { current = subst (IsCurrent count) (sym is) tt; groups = groups; parts = parts; begun = begun refl; bounded = bounded }
current_fits count s offset (Some font) is parts bounded groups inside begun = font_fits count s offset font parts bounded (subst (IsCurrent count) (sym is) inside) groups inside

-- where a font is current, a Font part stands there
begun_by : (s : Setting) (font : ℕ) → s.current ≡ Some font → Begun s → has_font s.parts ≡ true
begun_by s font is begun = ⊎_elim (λ has. has) (λ none. let other : None ≡ Some font = sym none.0 ∙ is in cc) begun

-- what needs the current font is text
on_font : (count : ℕ) (s : Setting) (offset : ℕ) (current : Option ℕ) (f : Unit {0} → Reading Setting) → s.current ≡ current → SettingFits count s → (has_font s.parts ≡ true → OnRead (SettingFits count) (f tt)) → OnRead (SettingFits count) (font_or_fault offset current >>= f)
on_font count s offset None f is fits keeps = tt
on_font count s offset (Some font) f is fits keeps = keeps (begun_by s font is fits.begun)

text_fits : (count : ℕ) (s : Setting) (from : ℕ) (one : Part) (toks : List Token) → SettingFits count s → NamesFont count one → IsBounded one → is_font one ≡ false → OnRead (SettingFits count) (text s from one toks)
unfolding text
text_fits count s from one toks fits names bounded no_font = on_font count s from s.current (λ _. Ok (add_part s from one, toks)) refl fits (λ has. plain_fits count s from one fits names bounded (λ h. has) no_font)

symbol_fits : (count : ℕ) (s : Setting) (from code : ℕ) (toks : List Token) → SettingFits count s → OnRead (SettingFits count) (symbol s from code toks)
unfolding symbol
symbol_fits count s from code toks fits =
    OnRead-cond _ (is_character_symbol code) _ _ (text_fits count s from (char_part code) toks fits tt tt refl)
    (OnRead-cond _ (code == 32) _ _ (text_fits count s from normal_part toks fits tt tt refl)
    (OnRead-cond _ (code == 45) _ _ (text_fits count s from hyphen_part toks fits tt tt refl) tt))

open_fits : (count : ℕ) (s : Setting) (from : ℕ) (toks : List Token) → SettingFits count s → OnRead (SettingFits count) (open_group s from toks)
unfolding open_group
open_fits count s from toks fits =
    current_fits count (record s { groups = record { font = s.current; brace = from } ∷ s.groups }) from s.current refl fits.parts fits.bounded (fits.current, fits.groups) fits.current
    (λ none. ⊎_elim (λ has. inl has) (λ others. inr (none, (none, others.1))) fits.begun)

closed_fits : (count : ℕ) (s : Setting) (from : ℕ) (toks : List Token) (groups : List Group) → s.groups ≡ groups → SettingFits count s → OnRead (SettingFits count) (close_innermost s from toks groups)
closed_fits count s from toks [] is fits = tt
closed_fits count s from toks (one ∷ groups) is fits =
    let inner : GroupsFit count (one ∷ groups) = subst (GroupsFit count) is fits.groups in
    current_fits count (record s { current = one.font; groups = groups }) from one.font refl fits.parts fits.bounded inner.1 inner.0
    (λ none. ⊎_elim (λ has. inl has) (λ others. let forgotten : NoneRemembered (one ∷ groups) = subst NoneRemembered is others.1 in inr (none, forgotten.1)) fits.begun)

closing_fits : (count : ℕ) (s : Setting) (from : ℕ) (toks : List Token) → SettingFits count s → OnRead (SettingFits count) (close_group s from toks)
unfolding close_group
closing_fits count s from toks fits = closed_fits count s from toks s.groups refl fits

-- a font word names a declared font
font_from_inside : (font : ℕ) (names : List (List ℕ)) (name : List ℕ) → IsCurrent (font + length names) (font_from font names name)
font_from_inside font [] name = tt
font_from_inside font (own ∷ names) name =
    elim (bytes_eq own name) as (λ b. IsCurrent (font + length (own ∷ names)) (cond b (Some font) (font_from (font + 1) names name))) [
      | true ↦ omega arith
      | false ↦ (let same : font + 1 + length names ≡ font + length (own ∷ names) = omega arith in subst (λ (n : ℕ). IsCurrent n (font_from (font + 1) names name)) same (font_from_inside (font + 1) names name))
    ]

pub font_named_inside : (names : List (List ℕ)) (name : List ℕ) → IsCurrent (length names) (font_named names name)
font_named_inside names name = let same : 0 + length names ≡ length names = omega arith in subst (λ (n : ℕ). IsCurrent n (font_named names name)) same (font_from_inside 0 names name)

selected_fits : (count : ℕ) (s : Setting) (from : ℕ) (toks : List Token) (font : Option ℕ) → IsCurrent count font → SettingFits count s → OnRead (SettingFits count) (select_named s from toks font)
selected_fits count s from toks None inside fits = tt
selected_fits count s from toks (Some font) inside fits = font_fits count (record s { current = Some font }) from font fits.parts fits.bounded inside fits.groups inside

word_fits : (bytes : List ℕ) (names : List (List ℕ)) (s : Setting) (tok : Token) (toks : List Token) → SettingFits (length names) s → OnRead (SettingFits (length names)) (font_word bytes names s tok toks)
unfolding font_word
word_fits bytes names s tok toks fits = selected_fits (length names) s tok.from toks (font_named names (name_of bytes tok)) (font_named_inside names (name_of bytes tok)) fits

disc_fits : (count end : ℕ) (s : Setting) (from : ℕ) (toks : List Token) → SettingFits count s → OnRead (SettingFits count) (discretionary end s from toks)
unfolding discretionary
disc_fits count end s from toks fits =
    on_font count s from s.current _ refl fits (λ has.
    OnRead-bind _ (group end toks) _ (λ pre. OnRead-bind _ (group end pre.1) _ (λ post. OnRead-bind _ (group end post.1) _ (λ whole. plain_fits count s from _ fits tt tt (λ h. has) refl))))

command_fits : (count end : ℕ) (s : Setting) (from : ℕ) (word : Word) (toks : List Token) → SettingFits count s → OnRead (SettingFits count) (command end s from word toks)
unfolding command
command_fits count end s from ParEnd toks fits = fits
command_fits count end s from Bye toks fits = fits
command_fits count end s from End toks fits = fits
command_fits count end s from Noindent toks fits = fits
command_fits count end s from Relax toks fits = current_fits count s from s.current refl fits.parts fits.bounded fits.groups fits.current (λ none. fits.begun)
command_fits count end s from char_word toks fits = on_font count s from s.current _ refl fits (λ has. OnRead-bind _ (natural 0 255 end toks) _ (λ x. plain_fits count s from _ fits tt tt (λ h. has) refl))
command_fits count end s from Kern toks fits = OnRead-then IsLength _ (dimension end toks) _ (dimension_bounded end toks) (λ x bounded. plain_fits count s from _ fits tt bounded (λ h. cc) refl)
command_fits count end s from Hskip toks fits = OnRead-then IsGlue _ (glue end toks) _ (glue_bounded end toks) (λ x bounded. plain_fits count s from _ fits tt bounded (λ h. cc) refl)
command_fits count end s from Penalty toks fits = OnRead-then IsNumber _ (number end toks) _ (number_bounded end toks) (λ x bounded. plain_fits count s from _ fits tt bounded (λ h. cc) refl)
command_fits count end s from Discretionary toks fits = disc_fits count end s from toks fits
command_fits count end s from Parshape toks fits = tt
command_fits count end s from (Declaration word) toks fits = tt
command_fits count end s from (Integer word) toks fits = tt
command_fits count end s from (Dimension word) toks fits = tt
command_fits count end s from (Glue word) toks fits = tt

lexeme_fits : (bytes : List ℕ) (names : List (List ℕ)) (s : Setting) (tok : Token) (toks : List Token) (lexeme : Lexeme) → SettingFits (length names) s → OnRead (SettingFits (length names)) (part_of bytes names s tok toks lexeme)
lexeme_fits bytes names s tok toks (byte code) fits = text_fits (length names) s tok.from (char_part code) toks fits tt tt refl
lexeme_fits bytes names s tok toks Space fits = text_fits (length names) s tok.from space_part toks fits tt tt refl
lexeme_fits bytes names s tok toks Tie fits = text_fits (length names) s tok.from tie_part toks fits tt tt refl
lexeme_fits bytes names s tok toks (Symbol code) fits = symbol_fits (length names) s tok.from code toks fits
lexeme_fits bytes names s tok toks Open fits = open_fits (length names) s tok.from toks fits
lexeme_fits bytes names s tok toks Close fits = closing_fits (length names) s tok.from toks fits
lexeme_fits bytes names s tok toks (Letter code) fits = word_fits bytes names s tok toks fits
lexeme_fits bytes names s tok toks Name fits = word_fits bytes names s tok toks fits
lexeme_fits bytes names s tok toks (command_word word) fits = command_fits (length names) (length bytes) s tok.from word toks fits
lexeme_fits bytes names s tok toks EmptyLine fits = fits

part_fits : (bytes : List ℕ) (names : List (List ℕ)) (s : Setting) (tok : Token) (toks : List Token) → SettingFits (length names) s → OnRead (SettingFits (length names)) (part bytes names s tok toks)
unfolding part
part_fits bytes names s tok toks fits = lexeme_fits bytes names s tok toks tok.lexeme fits

opened_fits : (count : ℕ) (current : Option ℕ) (from : ℕ) → IsCurrent count current → SettingFits count (start_setting current from)
opened_fits count current from inside = current_fits count (record { parts = []; current = current; groups = [] }) from current refl tt (All-nil (λ one. IsBounded one.part)) tt inside (λ none. inr (none, tt))

first_fits : (bytes : List ℕ) (names : List (List ℕ)) (s : Setting) (first : Option Token) (toks : List Token) → SettingFits (length names) s → OnRead (SettingFits (length names)) (first_part bytes names s first toks)
first_fits bytes names s None toks fits = fits
first_fits bytes names s (Some tok) toks fits = part_fits bytes names s tok toks fits

-- the parts of a paragraph, and the font that is current behind them
pub record ParFits (count : ℕ) (x : List PartAt × Option ℕ) : Type 0 where
  pub parts : PartsFit count false x.0
  pub bounded : AreBounded x.0
  pub current : IsCurrent count x.1

pub paragraph_fits : (bytes : List ℕ) (names : List (List ℕ)) (current : Option ℕ) (from : ℕ) (first : Option Token) (toks : List Token) → IsCurrent (length names) current → OnRead (ParFits (length names)) (paragraph bytes names current from first toks)
unfolding paragraph
paragraph_fits bytes names current from first toks inside =
    OnRead-then (SettingFits (length names)) (ParFits (length names)) (first_part bytes names (start_setting current from) first toks) _ (first_fits bytes names (start_setting current from) first toks (opened_fits (length names) current from inside))
    (λ begun fits. OnRead-then (SettingFits (length names)) (ParFits (length names)) (repeat ends_paragraph (part bytes names) (length begun.1) begun.0 begun.1) _ (OnRead-repeat (SettingFits (length names)) ends_paragraph (part bytes names) (part_fits bytes names) (length begun.1) begun.0 begun.1 fits)
    (λ read holds. OnRead-bind (ParFits (length names)) (no_open_group read.0.groups) _ (λ _. record { parts = holds.parts; bounded = holds.bounded; current = holds.current })))
