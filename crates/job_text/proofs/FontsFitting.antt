-- The fonts that a job declares keep what every job's fonts are kept to.
use Rattle.std.proofs.Common.{◌≡◌, ℕ, ◌+◌, ◌<◌, ◌≤◌, Bool, true, false, cond, List, [], ◌∷◌, length, Option, Some, None, refl, sym, ap, ◌∙◌, subst, arith}
use Rattle.std.specs.Prelude.{◌&&◌, All, ℤ, pos, negsuc, ◌≤ℤ◌, int_lt, nat_le, nat_lt, slice_get}
use Rattle.std.proofs.lemmas.Bool.{leb-false, leb-true, ltb-false}
use Rattle.std.proofs.lemmas.Int.{ints}
use Rattle.std.proofs.lemmas.List.{length-set, length-append}
use Rattle.std.proofs.lemmas.List.Elements.{All-nil, All-cons, All-get_or, All-set, All-push}
use Rattle.std.proofs.lemmas.Option.{slice_get_within, get_or_from_slice_get}
use Rattle.job_reading.specs.declared.token.Token.{Token}
use Rattle.job_reading.specs.declared.token.Lexeme.{Lexeme}
use Rattle.job_reading.specs.declared.token.Lexeme.TheVariants.{Char as byte}
use Rattle.job_reading.specs.Lexemes.{keyword, is_name_byte, byte_of}
use Rattle.job_reading.specs.Reading.{place, equals, skip_space}
use Rattle.job_reading.specs.Numbers.{number, natural, within, in_range}
use Rattle.job_reading.specs.Lengths.{dimension}
use Rattle.job_reading.specs.GrammarTokens.{name_of}
use Rattle.job_text.specs.declared.font_words.CodeTable.{CodeTable}
use Rattle.job_text.specs.declared.font_words.CodeTable.TheVariants.{Left, Right, Factor}
use Rattle.job_text.specs.Fonts.{Font, new_font, change_found, change_font, with_hyphen, with_expand, is_expanded, whole_limits}
use Rattle.job_text.specs.FontWords.{wanted_font, font_code, with_code, assign_code, hyphen_character, once, few_steps, expansion}
use Rattle.job_text.specs.FontDeclaration.{new_word, name_bytes, behind_name, file_name_of, file_name, positive, size_scaled, size_at, at_letters, scaled_letters, size, FontsAndNames, font}
use Rattle.font_stock.specs.Sizes.{IsSize}
use Rattle.job_text.specs.Fits.{is_file_byte, IsFileName}
use Rattle.job_reading.proofs.Keeping.{OnRead, OnRead-bind, OnRead-then, OnRead-if}

-- a number within bounds
record IsWithin (least most n : ℕ) : Type 0 where
  low : least ≤ n
  high : n ≤ most

within_fits : (least most first n : ℕ) (a b : Bool) (toks : List Token) → nat_le least n ≡ a → nat_le n most ≡ b → OnRead (IsWithin least most) (in_range first (cond (a && b) (Some n) None) toks)
within_fits least most first n true true toks low high = record { low = leb-true _ _ low; high = leb-true _ _ high }
within_fits least most first n true false toks low high = tt
within_fits least most first n false b toks low high = tt

in_range_fits : (least most first : ℕ) (value : ℤ) (toks : List Token) → OnRead (IsWithin least most) (in_range first (within least most value) toks)
in_range_fits least most first (pos n) toks = within_fits least most first n (nat_le least n) (nat_le n most) toks refl refl
in_range_fits least most first (negsuc n) toks = tt

natural_fits : (least most end : ℕ) (toks : List Token) → OnRead (IsWithin least most) (natural least most end toks)
unfolding natural
natural_fits least most end toks = OnRead-bind _ (number end toks) _ (λ x. in_range_fits least most (place end toks) x.0 x.1)

-- a file's name
name_byte_is : (lexeme : Lexeme) → is_name_byte lexeme ≡ true → is_file_byte (byte_of lexeme) ≡ true
name_byte_is (byte code) is = is
name_byte_is lexeme is = cc

one_name_byte : (tok : Token) (bytes : List ℕ) (b : Bool) → is_name_byte tok.lexeme ≡ b → All (λ code. is_file_byte code ≡ true) bytes → All (λ code. is_file_byte code ≡ true) (cond b (byte_of tok.lexeme ∷ bytes) [])
one_name_byte tok bytes true is all = All-cons (λ code. is_file_byte code ≡ true) (byte_of tok.lexeme) bytes (name_byte_is tok.lexeme is) all
one_name_byte tok bytes false is all = All-nil (λ code. is_file_byte code ≡ true)

name_bytes_are : (toks : List Token) → All (λ code. is_file_byte code ≡ true) (name_bytes toks)
name_bytes_are [] = All-nil (λ code. is_file_byte code ≡ true)
name_bytes_are (tok ∷ toks) = one_name_byte tok (name_bytes toks) (is_name_byte tok.lexeme) refl (name_bytes_are toks)

named_fits : (first : ℕ) (name : List ℕ) (toks : List Token) → All (λ code. is_file_byte code ≡ true) name → OnRead IsFileName (file_name_of first name toks)
named_fits first [] toks all = tt
named_fits first (code ∷ codes) toks all =
    OnRead-if IsFileName (nat_lt 40 (length (code ∷ codes))) _ _ (λ long. tt) (λ short. record { some = omega arith; short = ltb-false _ _ short; bytes = all })

file_name_fits : (end : ℕ) (toks : List Token) → OnRead IsFileName (file_name end toks)
unfolding file_name
file_name_fits end toks = named_fits (place end toks) (name_bytes toks) (behind_name toks) (name_bytes_are toks)

-- a size
at_least_one : (size : ℤ) → int_lt size (pos 1) ≡ false → pos 1 ≤ℤ size
at_least_one size is = grind (arith, ints)

positive_fits : (first : ℕ) (size : ℤ) (toks : List Token) → OnRead IsSize (positive first size toks)
positive_fits first size toks = OnRead-if IsSize (int_lt size (pos 1)) _ _ (λ small. tt) (λ big. at_least_one size big)

scaled_fits : (end : ℕ) (toks : List Token) (scaled : Option (List Token)) → OnRead IsSize (size_scaled end toks scaled)
scaled_fits end toks None = tt
scaled_fits end toks (Some scaled) = OnRead-then (IsWithin 1 32768) IsSize (natural 1 32768 end scaled) _ (natural_fits 1 32768 end scaled) (λ x h. (h.low, h.high))

size_at_fits : (end : ℕ) (toks : List Token) (at scaled : Option (List Token)) → OnRead IsSize (size_at end toks at scaled)
size_at_fits end toks None scaled = scaled_fits end toks scaled
size_at_fits end toks (Some at) scaled = OnRead-bind IsSize (dimension end at) _ (λ x. positive_fits (place end at) x.0 x.1)

size_fits : (end : ℕ) (toks : List Token) → OnRead IsSize (size end toks)
unfolding size
size_fits end toks = size_at_fits end toks (keyword at_letters toks) (keyword scaled_letters toks)

-- a font has a size and a file's name
pub record FontFits (font : Font) : Type 0 where
  pub size : IsSize font.size
  pub name : IsFileName font.name

-- so many fonts
pub record FontsFit (count : ℕ) (fonts : List Font) : Type 0 where
  pub counted : length fonts ≡ count
  pub each : All FontFits fonts

changed_fits : (count : ℕ) (fonts : List Font) (n : ℕ) (change : Font → Font) (found : Option Font) → slice_get fonts n ≡ found → ((f : Font) → FontFits f → FontFits (change f)) → FontsFit count fonts → FontsFit count (change_found fonts n change found)
changed_fits count fonts n change None is keeps fits = fits
changed_fits count fonts n change (Some f) is keeps fits =
    let inside : n < length fonts = slice_get_within fonts n f is in
    let own : FontFits f = subst FontFits (get_or_from_slice_get fonts n f f is) (All-get_or FontFits fonts n f inside fits.each) in
    record {
      counted = length-set fonts n (change f) ∙ fits.counted;
      each = All-set FontFits fonts n (change f) (keeps f own) fits.each;
    }

change_fits : (count : ℕ) (fonts : List Font) (n : ℕ) (change : Font → Font) → ((f : Font) → FontFits f → FontFits (change f)) → FontsFit count fonts → FontsFit count (change_font fonts n change)
change_fits count fonts n change keeps fits = changed_fits count fonts n change (slice_get fonts n) refl keeps fits

same_fit : (a b : Font) → a.size ≡ b.size → a.name ≡ b.name → FontFits a → FontFits b
same_fit a b sizes names fits = record { size = subst IsSize sizes fits.size; name = subst IsFileName names fits.name }

code_keeps_fit : (table : CodeTable) (code : ℕ) (value : ℤ) (f : Font) → FontFits f → FontFits (with_code table code value f)
code_keeps_fit Left code value f h = same_fit f _ refl refl h
code_keeps_fit Right code value f h = same_fit f _ refl refl h
code_keeps_fit Factor code value f h = same_fit f _ refl refl h

pub code_fits : (count : ℕ) (table : CodeTable) (bytes : List ℕ) (names : List (List ℕ)) (fonts : List Font) (toks : List Token) → FontsFit count fonts → OnRead (FontsFit count) (assign_code table bytes names fonts toks)
unfolding assign_code
code_fits count table bytes names fonts toks fits = OnRead-bind _ (font_code bytes names toks) _ (λ x. change_fits count fonts x.0.font (with_code table x.0.code x.0.value) (code_keeps_fit table x.0.code x.0.value) fits)

pub hyphen_fits : (count : ℕ) (bytes : List ℕ) (names : List (List ℕ)) (fonts : List Font) (toks : List Token) → FontsFit count fonts → OnRead (FontsFit count) (hyphen_character bytes names fonts toks)
unfolding hyphen_character
hyphen_fits count bytes names fonts toks fits = OnRead-bind _ (wanted_font bytes names toks) _ (λ font. OnRead-bind _ (number (length bytes) (equals font.1)) _ (λ value. change_fits count fonts font.0 (with_hyphen value.0) (λ f h. same_fit f _ refl refl h) fits))

pub expansion_fits : (count : ℕ) (bytes : List ℕ) (names : List (List ℕ)) (fonts : List Font) (from : ℕ) (toks : List Token) → FontsFit count fonts → OnRead (FontsFit count) (expansion bytes names fonts from toks)
unfolding expansion
expansion_fits count bytes names fonts from toks fits =
    OnRead-bind _ (wanted_font bytes names toks) _ (λ font.
    OnRead-bind _ (once from (is_expanded (slice_get fonts font.0))) _ (λ _.
    OnRead-bind _ (natural 0 1000 (length bytes) font.1) _ (λ stretch.
    OnRead-bind _ (natural 0 500 (length bytes) stretch.1) _ (λ shrink.
    OnRead-bind _ (natural 1 100 (length bytes) shrink.1) _ (λ step.
    OnRead-bind _ (few_steps from (whole_limits stretch.0 shrink.0 step.0)) _ (λ limits.
    change_fits count fonts font.0 (with_expand limits) (λ f h. same_fit f _ refl refl h) fits))))))

-- as many words as fonts, at most 32
pub record DeclaredFits (count : ℕ) (x : FontsAndNames) : Type 0 where
  pub more : count ≤ length x.names
  pub counted : length x.names ≡ length x.fonts
  pub few : length x.fonts ≤ 32
  pub each : All FontFits x.fonts

pub font_fits : (bytes : List ℕ) (names : List (List ℕ)) (fonts : List Font) (from : ℕ) (toks : List Token) → length names ≡ length fonts → All FontFits fonts → OnRead (DeclaredFits (length names)) (font bytes names fonts from toks)
unfolding font
font_fits bytes names fonts from toks counted each =
    OnRead-if (DeclaredFits (length names)) (nat_le 32 (length names)) _ _ (λ many. tt) (λ few.
    OnRead-bind _ (new_word bytes names toks) _ (λ word.
    OnRead-then IsFileName (DeclaredFits (length names)) (file_name (length bytes) (equals word.1)) _ (file_name_fits (length bytes) (equals word.1)) (λ file named.
    OnRead-then IsSize (DeclaredFits (length names)) (size (length bytes) (skip_space file.1)) _ (size_fits (length bytes) (skip_space file.1)) (λ asked sized.
    record {
      more = omega (arith, length-append names (name_of bytes word.0 ∷ []));
      counted = length-append names _ ∙ ap (λ (n : ℕ). n + 1) counted ∙ sym (length-append fonts _);
      few = omega (arith, length-append fonts (new_font file.0 asked.0 ∷ []), leb-false 32 (length names) few, counted);
      each = All-push FontFits fonts (new_font file.0 asked.0) each (record { size = sized; name = named });
    }))))
