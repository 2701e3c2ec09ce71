-- What each number of a font that was read is kept to (TFM description).
use Rattle.std.specs.Prelude.{◌≡◌, ℕ, ◌+◌, ◌-◌, ◌*◌, ◌^◌, ◌<◌, ◌≤◌, ℤ, pos, ◌<ℤ◌, ◌≤ℤ◌, Bool, false, ◌||◌, ◌==◌, IsTrue, List, length, slice_index_or, Option, Some, None}
use Rattle.micro_num.specs.Scaling.{IsFixWord}
use Rattle.tfm_read.specs.declared.character.CharInfo.{CharInfo}
use Rattle.tfm_read.specs.declared.ligature.LigWord.{LigWord}

-- at least 1pt and below 2048pt, in sp
pub record IsDesignSize (size : ℤ) : Type 0 where
  pub low : pos 65536 ≤ℤ size
  pub high : size <ℤ pos (2 ^ 27)

-- each parameter but the slant is a fix_word
abbrev pub AreParams : List ℤ → Type 0
AreParams params = (k : ℕ) → 0 < k → k < 7 → IsFixWord (slice_index_or params k (pos 0))

-- a place, where there is one, is below n
abbrev pub IsPlaceIn : ℕ → Option ℕ → Type 0
IsPlaceIn n place = (p : ℕ) → place ≡ Some p → p < n

-- the entry of a code that a font doesn't have
abbrev pub no_char : CharInfo
no_char = record { exists = false; width = pos 0; height = pos 0; depth = pos 0; program = None }

-- The sizes are fix_words, and the program starts at one of the n ligature words. The entry of a code
-- that isn't there has sizes of 0 and no program.
pub record CharFits (n : ℕ) (c : CharInfo) : Type 0 where
  pub width : IsFixWord c.width
  pub height : IsFixWord c.height
  pub depth : IsFixWord c.depth
  pub program : IsPlaceIn n c.program
  pub missing : c.exists ≡ false → c ≡ no_char

-- whether the character of a code exists
abbrev pub exists_at : List CharInfo → ℕ → Bool
exists_at chars code = (slice_index_or chars code no_char).exists

-- whether a code is that of the right boundary character
abbrev pub is_boundary : Option ℕ → ℕ → Bool
is_boundary None code = false
is_boundary (Some right) code = code == right

-- Where a ligature word leads, what it names and what it puts there is in the font. There are n words,
-- and this is the one at `place`; there are so many kerns.
pub record LigFits (chars : List CharInfo) (right : Option ℕ) (kerns n place : ℕ) (w : LigWord) : Type 0 where
  pub jump : 128 < w.skip → 256 * w.op + w.rest < n
  pub step : w.skip < 128 → place + w.skip + 1 < n
  pub next : w.skip ≤ 128 → IsTrue (exists_at chars w.next || is_boundary right w.next)
  pub kern : w.skip ≤ 128 → 128 ≤ w.op → 256 * (w.op - 128) + w.rest < kerns
  pub ligature : w.skip ≤ 128 → w.op < 128 → IsTrue (exists_at chars w.rest)

-- each ligature word fits
abbrev pub LigsFit : List CharInfo → Option ℕ → ℕ → List LigWord → Type 0
LigsFit chars right kerns ligs =
    (k : ℕ) (d : LigWord) → k < length ligs → LigFits chars right kerns (length ligs) k (slice_index_or ligs k d)
