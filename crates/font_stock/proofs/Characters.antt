-- The characters of a font that isn't refused fit at every stretch.
use Rattle.std.proofs.Common.{◌≡◌, subst, ℕ, zero, suc, ◌+◌, ◌*◌, ◌<◌, refl, ap, sym, arith, below_more, ◌∙◌, ℤ, pos, Bool, true, false, cond, not, ◌&&◌, List, [], ◌∷◌, ◌++◌, length, get_or, Option, Some, None}
use Rattle.std.specs.Prelude.{slice_index_or, slice_index, position, Contains}
use Rattle.std.specs.Option.{ForSome}
use Rattle.std.specs.List.{position_from}
use Rattle.std.proofs.lemmas.Bool.Decides.{nat_tests}
use Rattle.std.proofs.lemmas.Int.{ints}
use Rattle.std.proofs.lemmas.Iterator.Adapters.{position_from-zero}
use Rattle.std.proofs.lemmas.List.Elements.{All-get_or}
use Rattle.micro_num.specs.Expansion.{expanded}
use Rattle.micro_num.specs.Rounding.{nearest}
use Rattle.micro_num.specs.Scaling.{IsFixWord}
use Rattle.micro_num.proofs.Expansions.{thousandths_of-pos}
use Rattle.tfm_read.specs.declared.character.CharInfo.{CharInfo}
use Rattle.tfm_read.specs.declared.tfm.Tfm.{Tfm}
use Rattle.tfm_read.specs.Ranges as font
use Rattle.font_stock.specs.declared.expand.Expand.{Expand}
use Rattle.font_stock.specs.declared.codes.FontCodes.{FontCodes}
use Rattle.font_stock.specs.declared.scaled.ScaledChar.{ScaledChar}
use Rattle.font_stock.specs.Fonts.{char_of}
use Rattle.font_stock.specs.Scaling.{AreScaled, scaled_char}
use Rattle.std.proofs.lemmas.Grind.{common_steps}
use Rattle.std.proofs.lemmas.List.{get_or_append_left, get_or-append_right}
use Rattle.std.proofs.Math.Nat.{sub_self}
use Rattle.font_stock.specs.Refusals.{is_fix_word, is_past, is_too_wide, too_wide, wide_kern}

-- the sizes of a character are in the range that scaling asks
pub record IsSized (c : CharInfo) : Type 0 where
  pub width : IsFixWord c.width
  pub height : IsFixWord c.height
  pub depth : IsFixWord c.depth

-- each character of a font is of such a size
pub char_of-sized : (tfm : Tfm) (code : ℕ) → code < 256 → IsSized (char_of tfm code)
char_of-sized tfm code below =
    let inside : code < length tfm.chars = omega (arith, tfm.every_code) in
    let fits : font.CharFits (length tfm.ligs) (get_or tfm.chars code font.no_char) =
    All-get_or (font.CharFits (length tfm.ligs)) tfm.chars code font.no_char inside tfm.chars_fit in
    record { width = fits.width; height = fits.height; depth = fits.depth }

no_size : IsFixWord (pos 0)
no_size = record { low = omega (arith, ints); high = omega (arith, ints) }

-- a test of a range says what it is for
is_fix_word-true : (w : ℤ) → is_fix_word w ≡ true → IsFixWord w
is_fix_word-true w test = record { low = grind (arith, ints, nat_tests); high = grind (arith, ints, nat_tests) }

-- what is no character has no width at any stretch
expanded-nothing : (stretch : ℕ) → expanded (pos 0) (pos stretch) ≡ pos 0
unfolding expanded
expanded-nothing stretch =
    let none : nearest (0 * (1000 + stretch)) 1000 ≡ 0 = omega arith in
    thousandths_of-pos 0 (1000 + stretch) ∙ ap pos none

not_false : (b : Bool) → not b ≡ false → b ≡ true
not_false true test = refl
not_false false test = cc

-- what isn't past at a stretch is a fix_word there
pub is_past-false : (stretch w : ℤ) → is_past stretch w ≡ false → IsFixWord (expanded w stretch)
is_past-false stretch w test = is_fix_word-true _ (not_false _ test)

-- so it is of a character that isn't too wide, and of a code that a font doesn't have
fits_stretched : (stretch n : ℕ) (c : CharInfo) → font.CharFits n c → is_too_wide (pos stretch) c ≡ false → IsFixWord (expanded c.width (pos stretch))
fits_stretched stretch n c fits test = by c.exists refl test
  where
    by : (b : Bool) → c.exists ≡ b → b && is_past (pos stretch) c.width ≡ false → IsFixWord (expanded c.width (pos stretch))
    by true there test = is_past-false (pos stretch) c.width test
    by false none test =
        let nothing : c.width ≡ pos 0 = ap (λ (x : CharInfo). x.width) (fits.missing none) in
        rw (nothing, expanded-nothing) no_size

-- a search that finds nothing passed over every element
cond_none : (b : Bool) (n : ℕ) (rest : Option ℕ) → cond b (Some n) rest ≡ None → (b ≡ false) × (rest ≡ None)
cond_none true n rest found = cc
cond_none false n rest found = (refl, found)

pub position_from-none : {X : Type 0} (p : X → Bool) (xs : List X) (start i : ℕ) (d : X)
    → position_from p start xs ≡ None → i < length xs → p (get_or xs i d) ≡ false
position_from-none p [] start i d none below = absurd (omega arith)
position_from-none p (x ∷ xs) start zero d none below = (cond_none _ _ _ none).0
position_from-none p (x ∷ xs) start (suc i) d none below =
    position_from-none p xs (start + 1) i d (cond_none _ _ _ none).1 (omega arith)

-- no character of a font that isn't refused is too wide
pub char_of-fits : (tfm : Tfm) (expand : Option Expand) (code : ℕ) → too_wide expand tfm.chars ≡ None → code < 256
    → ForSome expand (λ e. IsFixWord (expanded (char_of tfm code).width (pos e.stretch)))
unfolding too_wide
char_of-fits tfm None code none below = λ e same. absurd_none e same
  where
    absurd_none : (e : Expand) → None ≡ Some e → IsFixWord (expanded (char_of tfm code).width (pos e.stretch))
    absurd_none e same = absurd (cc)
char_of-fits tfm (Some expand) code none below = λ e same.
    let inside : code < length tfm.chars = omega (arith, tfm.every_code) in
    let passed = position_from-none (is_too_wide (pos expand.stretch)) tfm.chars 0 code font.no_char
    (sym (position_from-zero (is_too_wide (pos expand.stretch)) tfm.chars) ∙ none) inside in
    let sound : font.CharFits (length tfm.ligs) (get_or tfm.chars code font.no_char) =
    All-get_or (font.CharFits (length tfm.ligs)) tfm.chars code font.no_char inside tfm.chars_fit in
    let fits : IsFixWord (expanded (char_of tfm code).width (pos expand.stretch)) =
    fits_stretched expand.stretch (length tfm.ligs) (get_or tfm.chars code font.no_char) sound passed in
    let is : expand ≡ e = cc in
    subst (λ (x : Expand). IsFixWord (expanded (char_of tfm code).width (pos x.stretch))) is fits

kern_passed : (stretch : ℕ) (kerns : List ℤ) (fix : ℤ) → position (is_past (pos stretch)) kerns ≡ None → Contains kerns fix
    → IsFixWord (expanded fix (pos stretch))
kern_passed stretch kerns fix none (k, inside, is) =
    let passed : is_past (pos stretch) (get_or kerns k fix) ≡ false =
    position_from-none (is_past (pos stretch)) kerns 0 k fix (sym (position_from-zero (is_past (pos stretch)) kerns) ∙ none) inside in
    is_past-false (pos stretch) fix (subst (λ (w : ℤ). is_past (pos stretch) w ≡ false) is passed)

-- no kern of a font that isn't refused is too wide
pub kern-fits : (expand : Option Expand) (kerns : List ℤ) (fix : ℤ) → wide_kern expand kerns ≡ None → ForSome expand (λ e. Contains kerns fix)
    → ForSome expand (λ e. IsFixWord (expanded fix (pos e.stretch)))
unfolding wide_kern
kern-fits None kerns fix none here = λ e same. absurd_none e same
  where
    absurd_none : (e : Expand) → None ≡ Some e → IsFixWord (expanded fix (pos e.stretch))
    absurd_none e same = absurd (cc)
kern-fits (Some expand) kerns fix none here = λ e same.
    let fits : IsFixWord (expanded fix (pos expand.stretch)) = kern_passed expand.stretch kerns fix none (here expand refl) in
    let is : expand ≡ e = cc in
    subst (λ (x : Expand). IsFixWord (expanded fix (pos x.stretch))) is fits

-- one more character
pub AreScaled-push : (tfm : Tfm) (codes : FontCodes) (expand : Option Expand) (z : ℤ) (n : ℕ) (chars : List ScaledChar) (next : ScaledChar)
    → AreScaled tfm codes expand z n chars
    → next ≡ scaled_char expand z (slice_index codes.ef n) (char_of tfm n)
    → AreScaled tfm codes expand z (n + 1) (chars ++ next ∷ [])
AreScaled-push tfm codes expand z n chars next so_far is = record {
  count = grind (arith, common_steps, so_far.count);
  each = λ code d below. below_more IsScaled n before here code below d;
}
  where
    IsScaled : ℕ → Type 0
    IsScaled code = (d : ScaledChar) → slice_index_or (chars ++ next ∷ []) code d ≡ scaled_char expand z (slice_index codes.ef code) (char_of tfm code)

    before : (code : ℕ) → code < n → IsScaled code
    before code below d = get_or_append_left chars (next ∷ []) d code (omega (arith, so_far.count)) ∙ so_far.each code d below

    here : IsScaled n
    here d = get_or-append_right chars (next ∷ []) n n d so_far.count (omega arith) ∙ rw sub_self is
