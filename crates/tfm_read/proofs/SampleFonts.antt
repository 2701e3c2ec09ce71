-- Two small fonts as values, for rows that compute: tiny10, in which each of the codes 33 to 126 is half
-- a design size wide and high, and lig10, which has besides the ligatures ff, fi and ffi at 11, 12 and
-- 14, a kern between o and v, one before q at the left boundary and one after r at the right one.
use Rattle.std.proofs.Common.{◌≡◌, ℕ, zero, suc, ◌+◌, ◌-◌, ◌*◌, ◌<◌, ◌≤◌, Bool, true, false, ◌&&◌, ◌||◌, not, cond, ltb, List, [], ◌∷◌, length, get_or, ℤ, pos, negsuc, refl, subst, arith, All, lit<}
use Rattle.std.specs.Prelude.{Option, Some, None, IsTrue, nat_lt, nat_le, nat_eq}
use Rattle.std.proofs.lemmas.Bool.{ltb-true}
use Rattle.std.proofs.lemmas.Bool.Decides.{nat_tests}
use Rattle.std.proofs.lemmas.Int.{ints}
use Rattle.std.proofs.lemmas.List.Elements.{All-nil, All-cons}
use Rattle.micro_num.specs.Scaling.{IsFixWord}
use Rattle.tfm_read.specs.Entries.{entries}
use Rattle.tfm_read.specs.Ranges.{CharFits, LigFits, LigsFit, IsPlaceIn, IsDesignSize, no_char, exists_at, is_boundary}
use Rattle.tfm_read.specs.declared.character.CharInfo.{CharInfo}
use Rattle.tfm_read.specs.declared.ligature.LigWord.{LigWord}
use Rattle.tfm_read.specs.declared.tfm.Tfm.{Tfm}
use Rattle.tfm_read.proofs.Entries.{get_or-entries, length-entries}

-- ---- tests of what a font keeps

-- where a test says so, a number is a fix_word
abbrev pub fix_test : ℤ → Bool
fix_test (pos n) = ltb n 16777216
fix_test (negsuc n) = ltb n 16777216

fix_fits : (z : ℤ) → fix_test z ≡ true → IsFixWord z
fix_fits (pos n) e =
    let lt = ltb-true _ _ e in
    record { low = omega (arith, ints); high = omega (arith, ints, lt) }
fix_fits (negsuc n) e =
    let lt = ltb-true _ _ e in
    record { low = omega (arith, ints, lt); high = omega (arith, ints) }

abbrev pub all_fix : List ℤ → Bool
all_fix [] = true
all_fix (z ∷ zs) = fix_test z && all_fix zs

both : (a b : Bool) → (a && b) ≡ true → (a ≡ true) × (b ≡ true)
both true b e = (refl, e)
both false b e = absurd cc

pub fixes_fit : (zs : List ℤ) → all_fix zs ≡ true → All IsFixWord zs
fixes_fit [] e = All-nil IsFixWord
fixes_fit (z ∷ zs) e =
    let two = both (fix_test z) (all_fix zs) e in
    All-cons IsFixWord z zs (fix_fits z two.0) (fixes_fit zs two.1)

-- one test where another is true
unfoldable pub implies : Bool → Bool → Bool
implies a b = not a || b

implied : (a b : Bool) → implies a b ≡ true → a ≡ true → b ≡ true
unfolding implies
implied true b e t = e
implied false b e t = absurd cc

unfoldable pub lig_test : List CharInfo → Option ℕ → (kerns n place : ℕ) → LigWord → Bool
lig_test chars right kerns n place w =
    implies (nat_lt 128 w.skip) (nat_lt (256 * w.op + w.rest) n)
    && (implies (nat_lt w.skip 128) (nat_lt (place + w.skip + 1) n)
    && (implies (nat_le w.skip 128) (exists_at chars w.«next» || is_boundary right w.«next»)
    && (implies (nat_le w.skip 128) (implies (nat_le 128 w.op) (nat_lt (256 * (w.op - 128) + w.rest) kerns))
    && implies (nat_le w.skip 128) (implies (nat_lt w.op 128) (exists_at chars w.rest)))))

unfoldable pub ligs_test : List CharInfo → Option ℕ → (kerns n place : ℕ) → List LigWord → Bool
ligs_test chars right kerns n place [] = true
ligs_test chars right kerns n place (w ∷ ws) =
    lig_test chars right kerns n place w && ligs_test chars right kerns n (suc place) ws

is_lt : (a b : ℕ) → a < b → nat_lt a b ≡ true
is_lt a b lt = grind (arith, nat_tests)

is_le : (a b : ℕ) → a ≤ b → nat_le a b ≡ true
is_le a b le = grind (arith, nat_tests)

is_true : (b : Bool) → b ≡ true → IsTrue b
is_true b e = e

lig_fits : (chars : List CharInfo) (right : Option ℕ) (kerns n place : ℕ) (w : LigWord) → lig_test chars right kerns n place w ≡ true
    → LigFits chars right kerns n place w
unfolding lig_test
lig_fits chars right kerns n place w e =
    let one = both _ _ e in
    let two = both _ _ one.1 in
    let three = both _ _ two.1 in
    let four = both _ _ three.1 in
    record {
      jump = λ far. ltb-true _ _ (implied _ _ one.0 (is_lt _ _ far));
      step = λ near. ltb-true _ _ (implied _ _ two.0 (is_lt _ _ near));
      «next» = λ may. is_true _ (implied _ _ three.0 (is_le _ _ may));
      kern = λ may op. ltb-true _ _ (implied _ _ (implied _ _ four.0 (is_le _ _ may)) (is_le _ _ op));
      ligature = λ may op. is_true _ (implied _ _ (implied _ _ four.1 (is_le _ _ may)) (is_lt _ _ op));
    }

-- each word from a place on fits
from_place : (chars : List CharInfo) (right : Option ℕ) (kerns n place : ℕ) (ws : List LigWord)
    → ligs_test chars right kerns n place ws ≡ true
    → (k : ℕ) (d : LigWord) → k < length ws → LigFits chars right kerns n (place + k) (get_or ws k d)
unfolding ligs_test
from_place chars right kerns n place [] e k d lt = absurd (omega arith)
from_place chars right kerns n place (w ∷ ws) e zero d lt =
    let here : place ≡ place + 0 = omega arith in
    let P : ℕ → Type 0 = λ p. LigFits chars right kerns n p w in
    subst P here (lig_fits chars right kerns n place w (both _ _ e).0)
from_place chars right kerns n place (w ∷ ws) e (suc k) d lt =
    let there : suc place + k ≡ place + suc k = omega arith in
    let P : ℕ → Type 0 = λ p. LigFits chars right kerns n p (get_or ws k d) in
    subst P there (from_place chars right kerns n (suc place) ws (both _ _ e).1 k d (omega arith))

pub ligs_fit : (chars : List CharInfo) (right : Option ℕ) (kerns : ℕ) (ws : List LigWord)
    → ligs_test chars right kerns (length ws) 0 ws ≡ true → LigsFit chars right kerns ws
ligs_fit chars right kerns ws e = λ k d lt.
    let here : 0 + k ≡ k = omega arith in
    let P : ℕ → Type 0 = λ p. LigFits chars right kerns (length ws) p (get_or ws k d) in
    subst P here (from_place chars right kerns (length ws) 0 ws e k d lt)

-- ---- the characters

-- a character half a design size wide and high, where it is there
unfoldable pub half_char : Bool → Option ℕ → CharInfo
half_char there program =
    cond there (record { exists = true; width = pos 524288; height = pos 524288; depth = pos 0; program = program }) no_char

half_fits : (n : ℕ) (there : Bool) (program : Option ℕ) → IsPlaceIn n program → CharFits n (half_char there program)
unfolding half_char
half_fits n true program place = record {
  width = fix_fits (pos 524288) refl;
  height = fix_fits (pos 524288) refl;
  depth = fix_fits (pos 0) refl;
  program = place;
  missing = λ e. absurd cc;
}
half_fits n false program place = record {
  width = fix_fits (pos 0) refl;
  height = fix_fits (pos 0) refl;
  depth = fix_fits (pos 0) refl;
  program = λ p e. absurd cc;
  missing = λ e. refl;
}

pub no_place : (n : ℕ) → IsPlaceIn n None
no_place n = λ p e. absurd cc

pub at_place : (n place : ℕ) → place < n → IsPlaceIn n (Some place)
at_place n place lt = λ p e. let same : place ≡ p = cc in omega (arith, same, lt)

place_in : (n : ℕ) (b : Bool) (x y : Option ℕ) → IsPlaceIn n x → IsPlaceIn n y → IsPlaceIn n (cond b x y)
place_in n true x y p q = p
place_in n false x y p q = q

pub all_chars : (n : ℕ) (there : ℕ → Bool) (program : ℕ → Option ℕ) → ((code : ℕ) → IsPlaceIn n (program code))
    → All (CharFits n) (entries (λ code. half_char (there code) (program code)) 256)
all_chars n there program places = λ code d lt.
    let below : code < 256 = omega (arith, lt, length-entries (λ code. half_char (there code) (program code)) 256) in
    rw (get_or-entries (λ code. half_char (there code) (program code)) 256 code d below)
    (half_fits n (there code) (program code) (places code))

abbrev pub params : List ℤ
params = pos 0 ∷ pos 262144 ∷ pos 131072 ∷ pos 65536 ∷ pos 524288 ∷ pos 1048576 ∷ pos 0 ∷ []

pub ten_points : IsDesignSize (pos 655360)
ten_points = record { low = omega (arith, ints); high = omega (arith, ints) }

-- ---- the fonts

abbrev pub printed : ℕ → Bool
printed code = nat_le 33 code && nat_le code 126

unfoldable pub tiny10 : Tfm
tiny10 = record {
  checksum = 0;
  design = pos 655360;
  chars = entries (λ code. half_char (printed code) None) 256;
  ligs = [];
  kerns = [];
  params = params;
  right = None;
  left = None;
  every_code = length-entries (λ code. half_char (printed code) None) 256;
  design_fits = ten_points;
  chars_fit = all_chars 0 printed (λ code. None) (λ code. no_place 0);
  ligs_fit = λ k d lt. absurd (omega (arith, lt));
  kerns_fit = All-nil IsFixWord;
  few_kerns = lit< tt;
  params_fit = λ k low high. fixes_fit params refl k (pos 0) high;
  left_fits = no_place 0;
}

abbrev pub lig10_there : ℕ → Bool
lig10_there code = printed code || (nat_eq code 11 || (nat_eq code 12 || nat_eq code 14))

abbrev pub lig10_program : ℕ → Option ℕ
lig10_program code =
    cond (nat_eq code 102) (Some 1)
    (cond (nat_eq code 11) (Some 3) (cond (nat_eq code 111) (Some 4) (cond (nat_eq code 114) (Some 6) None)))

pub lig10_places : (code : ℕ) → IsPlaceIn 8 (lig10_program code)
lig10_places code =
    place_in 8 (nat_eq code 102) _ _ (at_place 8 1 (lit< tt))
    (place_in 8 (nat_eq code 11) _ _ (at_place 8 3 (lit< tt))
    (place_in 8 (nat_eq code 111) _ _ (at_place 8 4 (lit< tt))
    (place_in 8 (nat_eq code 114) _ _ (at_place 8 6 (lit< tt)) (no_place 8))))

abbrev pub word : (skip follower op rest : ℕ) → LigWord
word skip follower op rest = record { skip = skip; «next» = follower; op = op; rest = rest }

abbrev pub lig10_ligs : List LigWord
lig10_ligs =
    word 255 0 0 0 ∷ word 0 102 0 11 ∷ word 128 105 0 12 ∷ word 128 105 0 14 ∷ word 128 118 128 0
    ∷ word 128 113 128 0 ∷ word 128 0 128 0 ∷ word 255 0 0 5 ∷ []

abbrev pub lig10_chars : List CharInfo
lig10_chars = entries (λ code. half_char (lig10_there code) (lig10_program code)) 256

pub lig10_ligs_pass : ligs_test lig10_chars (Some 0) 1 8 0 lig10_ligs ≡ true
unfolding entries half_char ligs_test lig_test implies
lig10_ligs_pass = refl

unfoldable pub lig10 : Tfm
lig10 = record {
  checksum = 0;
  design = pos 655360;
  chars = lig10_chars;
  ligs = lig10_ligs;
  kerns = negsuc 65535 ∷ [];
  params = params;
  right = Some 0;
  left = Some 5;
  every_code = length-entries (λ code. half_char (lig10_there code) (lig10_program code)) 256;
  design_fits = ten_points;
  chars_fit = all_chars 8 lig10_there lig10_program lig10_places;
  ligs_fit = ligs_fit lig10_chars (Some 0) 1 lig10_ligs lig10_ligs_pass;
  kerns_fit = fixes_fit (negsuc 65535 ∷ []) refl;
  few_kerns = lit< tt;
  params_fit = λ k low high. fixes_fit params refl k (pos 0) high;
  left_fits = at_place 8 5 (lit< tt);
}
