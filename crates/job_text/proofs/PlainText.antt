-- A byte or a space of plain text is a part that needs a font, and ends no paragraph. So plain text is read as its
-- parts, one for each byte.
use Rattle.std.proofs.Common.{◌≡◌, ℕ, zero, suc, ◌+◌, Bool, true, false, List, [], ◌∷◌, ◌++◌, get_or, Option, Some, None, Ok, refl, sym, ap, ◌∙◌, subst, append_assoc, arith}
use Rattle.std.specs.Prelude.{is_some, nat_lt, if◌then◌else◌}
use Rattle.micro_num.specs.declared.paragraph.PartAt.{PartAt}
use Rattle.micro_num.specs.declared.part.Part.{Part}
use Rattle.micro_num.specs.declared.part.Part.TheVariants.{Char as char_part, Space as space_part}
use Rattle.job_reading.specs.declared.token.Token.{Token}
use Rattle.job_reading.specs.declared.token.Lexeme.{Lexeme}
use Rattle.job_reading.specs.declared.token.Lexeme.TheVariants.{Char as byte, Symbol, Letter, Word as command_word, Name, Space, EmptyLine, Open, Close, Tie}
use Rattle.job_text.specs.declared.setting.Setting.{Setting}
use Rattle.job_reading.specs.Lexemes.{ends_paragraph}
use Rattle.job_reading.specs.Reading.{Reading, ◌>>=◌}
use Rattle.job_reading.specs.PlainTokens.{plain_token, plain_tokens}
use Rattle.job_text.specs.Parts.{add_part, font_or_fault, text, part_of, part}
use Rattle.job_text.proofs.PlainParts.{append-nil}
use Rattle.job_text.specs.PlainParts.{byte_part, part_at, plain_parts, add_parts}
use Rattle.job_reading.specs.Repeats.{GoesOn}
use Rattle.job_reading.proofs.Repeats.{repeat_goes}

-- the part that a byte or a space of plain text is
abbrev pub plain_part : Lexeme → Option Part
plain_part (byte code) = Some (char_part code)
plain_part Space = Some space_part
plain_part _ = None

no_part_is : {A : Type 0} (found : Part) → None ≡ Some found → A
no_part_is found is = absurd cc

goes_on : (lexeme : Lexeme) (found : Part) → plain_part lexeme ≡ Some found → ends_paragraph lexeme ≡ false
goes_on (byte code) found is = refl
goes_on Space found is = refl
goes_on (Symbol code) found is = refl
goes_on (Letter code) found is = refl
goes_on (command_word word) found is = no_part_is found is
goes_on Name found is = refl
goes_on EmptyLine found is = no_part_is found is
goes_on Open found is = refl
goes_on Close found is = refl
goes_on Tie found is = refl

-- with a current font the part is added
abbrev adding : Setting → ℕ → Part → List Token → Option ℕ → Reading Setting
adding setting from found toks current = font_or_fault from current >>= λ _. Ok (add_part setting from found, toks)

text_reads : (setting : Setting) (from : ℕ) (found : Part) (toks : List Token) (current : Option ℕ) → is_some current ≡ true → adding setting from found toks current ≡ Ok (add_part setting from found, toks)
text_reads setting from found toks None is = absurd cc
text_reads setting from found toks (Some font) is = refl

abbrev added : Setting → ℕ → List Token → Part → Reading Setting
added setting from toks found = Ok (add_part setting from found, toks)

part_reads : (bytes : List ℕ) (names : List (List ℕ)) (setting : Setting) (tok : Token) (toks : List Token) (lexeme : Lexeme) (found : Part) → plain_part lexeme ≡ Some found → is_some setting.current ≡ true → part_of bytes names setting tok toks lexeme ≡ Ok (add_part setting tok.from found, toks)
unfolding text
part_reads bytes names setting tok toks (byte code) found is current =
    let same : char_part code ≡ found = cc in
    text_reads setting tok.from (char_part code) toks setting.current current ∙ ap (added setting tok.from toks) same
part_reads bytes names setting tok toks Space found is current =
    let same : space_part ≡ found = cc in
    text_reads setting tok.from space_part toks setting.current current ∙ ap (added setting tok.from toks) same
part_reads bytes names setting tok toks (Symbol code) found is current = no_part_is found is
part_reads bytes names setting tok toks (Letter code) found is current = no_part_is found is
part_reads bytes names setting tok toks (command_word word) found is current = no_part_is found is
part_reads bytes names setting tok toks Name found is current = no_part_is found is
part_reads bytes names setting tok toks EmptyLine found is current = no_part_is found is
part_reads bytes names setting tok toks Open found is current = no_part_is found is
part_reads bytes names setting tok toks Close found is current = no_part_is found is
part_reads bytes names setting tok toks Tie found is current = no_part_is found is

-- what the whole reads is read on behind one such part
pub plain_goes : (bytes : List ℕ) (names : List (List ℕ)) (whole : Reading Setting) (setting next : Setting) (toks behind : List Token) (tok : Token) (found : Part) → GoesOn ends_paragraph (part bytes names) setting toks whole → toks ≡ tok ∷ behind → plain_part tok.lexeme ≡ Some found → is_some setting.current ≡ true → next ≡ add_part setting tok.from found → GoesOn ends_paragraph (part bytes names) next behind whole
unfolding part
plain_goes bytes names whole setting next toks behind tok found on begins is current is_next =
    subst (λ (s : Setting). GoesOn ends_paragraph (part bytes names) s behind whole) (sym is_next)
    (repeat_goes ends_paragraph (part bytes names) setting toks tok behind (add_part setting tok.from found) behind whole on begins (goes_on tok.lexeme found is) (part_reads bytes names setting tok behind tok.lexeme found is current) (omega arith))

-- the part of a byte of plain text is that of its token
part_by : (b : ℕ) (large : Bool) → plain_part (if large then byte b else Space) ≡ Some (if large then char_part b else space_part)
part_by b true = refl
part_by b false = refl

abbrev with_parts : Setting → List PartAt → Setting
with_parts setting parts = record { parts = parts; current = setting.current; groups = setting.groups }

-- what the whole reads is read on behind plain text
pub text_goes : (bytes : List ℕ) (names : List (List ℕ)) (whole : Reading Setting) (file : List ℕ) (place count : ℕ) (setting : Setting) (behind : List Token) → GoesOn ends_paragraph (part bytes names) setting (plain_tokens file place count ++ behind) whole → is_some setting.current ≡ true → GoesOn ends_paragraph (part bytes names) (add_parts setting (plain_parts file place count)) behind whole
unfolding plain_tokens plain_parts
text_goes bytes names whole file place zero setting behind on current =
    subst (λ (parts : List PartAt). GoesOn ends_paragraph (part bytes names) (with_parts setting parts) behind whole) (sym (append-nil setting.parts)) on
text_goes bytes names whole file place (suc count) setting behind on current =
    let b : ℕ = get_or file place 0 in
    let next : Setting = add_part setting place (byte_part b) in
    let goes = plain_goes bytes names whole setting next (plain_token file place ∷ plain_tokens file (place + 1) count ++ behind) (plain_tokens file (place + 1) count ++ behind) (plain_token file place) (byte_part b) on refl (part_by b (nat_lt 32 b)) current refl in
    subst (λ (parts : List PartAt). GoesOn ends_paragraph (part bytes names) (with_parts setting parts) behind whole)
    (append_assoc setting.parts (part_at file place ∷ []) (plain_parts file (place + 1) count))
    (text_goes bytes names whole file (place + 1) count next behind goes current)
