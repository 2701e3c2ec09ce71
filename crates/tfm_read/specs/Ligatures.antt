-- What a file says of ligatures and kerns (TFM description, "lig_kern").
use Rattle.std.specs.Prelude.{◌≡◌, ℕ, ◌+◌, ◌-◌, ◌*◌, ◌==◌, if◌then◌else◌, List, length, slice_get, Option, Some, None}
use Rattle.tfm_read.specs.declared.ligature.LigWord.{LigWord}
use Rattle.tfm_read.specs.declared.lengths.Lengths.{Lengths}
use Rattle.tfm_read.specs.Entries.{entries}
use Rattle.tfm_read.specs.Lengths.{places_of}
use Rattle.tfm_read.specs.declared.character.CharInfo.{CharInfo}
use Rattle.tfm_read.specs.declared.ligature.Programs.{Programs}
use Rattle.tfm_read.specs.Ranges.{LigFits, LigsFit}
use Rattle.tfm_read.specs.Words.{byte_of}

-- the ligature word i of those from a place on
abbrev pub lig_of : List ℕ → ℕ → ℕ → LigWord
lig_of bytes place i = record {
  skip = byte_of bytes (place + i) 0;
  next = byte_of bytes (place + i) 1;
  op = byte_of bytes (place + i) 2;
  rest = byte_of bytes (place + i) 3;
}

-- the ligature words
abbrev pub ligs_of : List ℕ → Lengths → List LigWord
ligs_of bytes l = entries (lig_of bytes (places_of l).ligs) l.ligs

-- the code of the right boundary character that a first word tells
abbrev pub right_in : LigWord → Option ℕ
right_in w = if w.skip == 255 then Some w.next else None

-- the place of the left boundary's program that a last word tells
abbrev pub left_in : LigWord → Option ℕ
left_in w = if w.skip == 255 then Some (256 * w.op + w.rest) else None

-- the code of the right boundary character
abbrev pub right_of : List LigWord → Option ℕ
right_of ligs = elim (slice_get ligs 0) [ None ↦ None | Some w ↦ right_in w ]

-- the place of the left boundary's program
abbrev pub left_of : List LigWord → Option ℕ
left_of ligs = elim (slice_get ligs (length ligs - 1)) [ None ↦ None | Some w ↦ left_in w ]

-- the ligature word i of n from a place on, which fits
abbrev pub IsLigAt : List ℕ → List CharInfo → Option ℕ → (kerns n place i : ℕ) → LigWord → Type 0
IsLigAt bytes chars right kerns n place i w = (w ≡ lig_of bytes place i) × LigFits chars right kerns n i w

-- the ligature words from a place on, n of them, and the right boundary character that they tell; each
-- word fits the characters and so many kerns
pub record ArePrograms (bytes : List ℕ) (place n : ℕ) (chars : List CharInfo) (kerns : ℕ) (programs : Programs) : Type 0 where
  pub ligs : programs.ligs ≡ entries (lig_of bytes place) n
  pub right : programs.right ≡ right_of (entries (lig_of bytes place) n)
  pub fit : LigsFit chars programs.right kerns programs.ligs
