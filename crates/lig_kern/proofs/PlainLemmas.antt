-- Where no word acts, as in a font without ligature words, a run is its characters.
use Rattle.std.proofs.Common.{◌≡◌, ℕ, ◌+◌, ◌<◌, ◌≤◌, Bool, true, false, List, [], ◌∷◌, ◌++◌, length, get_or, drop, refl, ap, sym, ◌∙◌, append_assoc, append-nil, arith}
use Rattle.std.specs.Prelude.{Option, Some, None, Ok, IsTrue, not, ◌&&◌, is_some, if◌then◌else◌}
use Rattle.std.proofs.lemmas.List.{drop_all}
use Rattle.tfm_read.specs.declared.ligature.LigWord.{LigWord}
use Rattle.tfm_read.specs.declared.tfm.Tfm.{Tfm}
use Rattle.lig_kern.specs.Covering.{characters}
use Rattle.lig_kern.specs.Outcome.{outcome}
use Rattle.lig_kern.specs.Plain.{is_quiet, IsPlain}
use Rattle.lig_kern.specs.Programs.{word_between, program_of, character_program, acting_word}
use Rattle.lig_kern.specs.Rewriting.{Reached, begins, goes_on, moves_on, move_at}
use Rattle.lig_kern.specs.Running.{left_symbols, right_symbols, code_symbols, start_of, AllExist, IsRun}
use Rattle.lig_kern.specs.Symbols.{code_of, glyphs_of}
use Rattle.lig_kern.specs.declared.glyph.Glyph.{Glyph}
use Rattle.lig_kern.specs.declared.glyph.Glyph.TheVariants.{Char}
use Rattle.lig_kern.specs.declared.symbols.Symbol.{Symbol}
use Rattle.lig_kern.proofs.OutcomeLemmas.{run-outcome}
use Rattle.lig_kern.proofs.SymbolLemmas.{code_symbols-at}
use Rattle.lig_kern.proofs.WalkLemmas.{walk-past}

-- ---- lists on which no word acts

and-first : (a b : Bool) → (a && b) ≡ true → a ≡ true
and-first true b e = refl
and-first false b e = e

and-second : (a b : Bool) → (a && b) ≡ true → b ≡ true
and-second true b e = e
and-second false b e = cc

-- no word is there where the test for one says so
none-there : (word : Option LigWord) → not (is_some word) ≡ true → word ≡ None
none-there None e = refl
none-there (Some word) e = cc

-- at a symbol before whose follower no word acts, the cursor moves on
stays : (tfm : Tfm) (current : Symbol) (rest : List Symbol) → is_quiet tfm (program_of tfm current.kind) rest ≡ true
    → move_at tfm current rest ≡ moves_on current rest
stays tfm current [] e = refl
stays tfm current (follower ∷ rest) e =
    rw (none-there (acting_word tfm current.kind follower.kind) (and-first _ _ e)) refl

-- the cursor passes over all that is ahead
passes-all : (tfm : Tfm) (start ahead before : List Symbol) (program : Option ℕ) → is_quiet tfm program ahead ≡ true
    → Reached tfm start 0 before ahead → Reached tfm start 0 (before ++ ahead) []
passes-all tfm start [] before program e r = rw (append-nil before) r
passes-all tfm start (current ∷ rest) before program e r =
    let tail : is_quiet tfm (program_of tfm current.kind) rest ≡ true = and-second _ _ e in
    let still = stays tfm current rest tail in
    rw (sym (append_assoc before (current ∷ []) rest))
    (passes-all tfm start rest (before ++ current ∷ []) (program_of tfm current.kind) tail
    (rw still at (goes_on 0 before current rest r)))

-- ---- what the symbols of a run give

right-gives : (right : Bool) (boundary : Option ℕ) (n : ℕ) → glyphs_of (right_symbols right boundary n []) ≡ []
right-gives true (Some code) n = refl
right-gives true None n = refl
right-gives false boundary n = refl

codes-give : (codes : List ℕ) (at : ℕ) (others : List Symbol) → glyphs_of others ≡ []
    → glyphs_of (code_symbols at codes others) ≡ characters at codes
codes-give [] at others e = e
codes-give (code ∷ codes) at others e = ap (λ (l : List Glyph). Char code at ∷ l) (codes-give codes (at + 1) others e)

left-gives : (left : Bool) (program : Option ℕ) (others : List Symbol)
    → glyphs_of (left_symbols left program others) ≡ glyphs_of others
left-gives true (Some place) others = refl
left-gives true None others = refl
left-gives false program others = refl

-- where no word acts, the characters are the run
pub quiet-run : (tfm : Tfm) (codes : List ℕ) (left right : Bool) → IsPlain tfm codes left right
    → IsRun tfm codes left right (characters 0 codes)
quiet-run tfm codes left right plain = record {
  exist = plain.exist;
  ends = record {
    acted = 0;
    symbols = start_of tfm codes left right;
    ends = passes-all tfm (start_of tfm codes left right) (start_of tfm codes left right) [] None plain.quiet begins;
    within = omega arith;
    gives = left-gives left tfm.left _ ∙ codes-give codes 0 _ (right-gives right tfm.right _);
  };
}

-- so the computed outcome is those characters
pub plain-outcome : (tfm : Tfm) (codes : List ℕ) (left right : Bool) → IsPlain tfm codes left right
    → outcome tfm codes left right ≡ Ok (characters 0 codes)
plain-outcome tfm codes left right plain = run-outcome tfm codes left right _ (quiet-run tfm codes left right plain)

-- ---- a font without ligature words

none-between : (ligs : List LigWord) (place code : Option ℕ) → length ligs ≡ 0 → word_between ligs place code ≡ None
none-between ligs None code e = refl
none-between ligs (Some place) None e = refl
none-between ligs (Some place) (Some code) e = walk-past code place ligs (omega arith)

quiet-without : (tfm : Tfm) (program : Option ℕ) (symbols : List Symbol) → length tfm.ligs ≡ 0 → is_quiet tfm program symbols ≡ true
quiet-without tfm program [] e = refl
quiet-without tfm program (symbol ∷ symbols) e =
    rw (none-between tfm.ligs program (code_of symbol.kind) e) (quiet-without tfm (program_of tfm symbol.kind) symbols e)

pub plain-run : (tfm : Tfm) (codes : List ℕ) (left right : Bool) → length tfm.ligs ≡ 0 → AllExist tfm.chars codes
    → IsRun tfm codes left right (characters 0 codes)
plain-run tfm codes left right e exist =
    quiet-run tfm codes left right (record { exist = exist; quiet = quiet-without tfm None (start_of tfm codes left right) e })

-- ---- the steps of the test

-- the left boundary is the symbol whose program may act before the first code
pub left-quiet : (tfm : Tfm) (left : Bool) (program : Option ℕ) (ahead : List Symbol) → tfm.left ≡ program
    → is_quiet tfm (if left then program else None) ahead ≡ is_quiet tfm None (left_symbols left program ahead)
unfolding program_of
left-quiet tfm true (Some place) ahead e = ap (λ (p : Option ℕ). is_quiet tfm p ahead) (sym e)
left-quiet tfm true None ahead e = refl
left-quiet tfm false program ahead e = refl

-- the code at a place is met, and then the rest
pub quiet-step : (tfm : Tfm) (program : Option ℕ) (codes : List ℕ) (others : List Symbol) (at : ℕ) → at < length codes
    → is_quiet tfm program (code_symbols at (drop at codes) others)
    ≡ (not (is_some (word_between tfm.ligs program (Some (get_or codes at 0))))
    && is_quiet tfm (character_program tfm (get_or codes at 0)) (code_symbols (at + 1) (drop (at + 1) codes) others))
unfolding program_of
quiet-step tfm program codes others at below = rw (code_symbols-at codes others at (at + 1) refl below) refl

-- where a word acts before it, the list isn't quiet
pub quiet-acts : (tfm : Tfm) (program : Option ℕ) (codes : List ℕ) (others : List Symbol) (at : ℕ) → at < length codes
    → is_some (word_between tfm.ligs program (Some (get_or codes at 0))) ≡ true
    → is_quiet tfm program (code_symbols at (drop at codes) others) ≡ false
quiet-acts tfm program codes others at below acts = rw (quiet-step tfm program codes others at below, acts) refl

-- where none does, the list is quiet where the rest is
pub quiet-on : (tfm : Tfm) (program : Option ℕ) (codes : List ℕ) (others : List Symbol) (at : ℕ) → at < length codes
    → is_some (word_between tfm.ligs program (Some (get_or codes at 0))) ≡ false
    → is_quiet tfm program (code_symbols at (drop at codes) others)
    ≡ is_quiet tfm (character_program tfm (get_or codes at 0)) (code_symbols (at + 1) (drop (at + 1) codes) others)
quiet-on tfm program codes others at below still = rw (quiet-step tfm program codes others at below, still) refl

-- after the last code only the others are left
pub quiet-end : (tfm : Tfm) (program : Option ℕ) (codes : List ℕ) (others : List Symbol) (at : ℕ) → length codes ≤ at
    → is_quiet tfm program (code_symbols at (drop at codes) others) ≡ is_quiet tfm program others
quiet-end tfm program codes others at past = rw (drop_all at codes past) refl

-- the answer of a test whether a run is plain means that it is
pub plain-or_not : (tfm : Tfm) (codes : List ℕ) (left right answer : Bool)
    → is_quiet tfm None (start_of tfm codes left right) ≡ answer → (IsTrue answer → AllExist tfm.chars codes)
    → (IsTrue answer → IsPlain tfm codes left right) × (IsPlain tfm codes left right → IsTrue answer)
plain-or_not tfm codes left right true e exist = (λ yes. record { exist = exist refl; quiet = e }, λ plain. refl)
plain-or_not tfm codes left right false e exist =
    (λ yes. cc, λ plain. sym e ∙ plain.quiet)
