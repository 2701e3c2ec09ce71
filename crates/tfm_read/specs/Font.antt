-- What it means that bytes are a font (TFM description; TeX: The Program, part 30).
use Rattle.std.specs.Prelude.{◌≡◌, ℕ, ◌/◌, pos, List, None, Result, Err}
use Rattle.tfm_read.specs.declared.fault.TfmFault.{TfmFault}
use Rattle.tfm_read.specs.declared.fault.TfmFault.TheVariants.{NoMemory}
use Rattle.tfm_read.specs.declared.lengths.Lengths.{Lengths}
use Rattle.tfm_read.specs.declared.tfm.Tfm.{Tfm}
use Rattle.tfm_read.specs.Characters.{chars_of}
use Rattle.tfm_read.specs.Checks.{fault_of}
use Rattle.tfm_read.specs.Entries.{entries}
use Rattle.tfm_read.specs.Lengths.{lengths_of, places_of}
use Rattle.tfm_read.specs.Ligatures.{ligs_of, right_of, left_of}
use Rattle.tfm_read.specs.Sizes.{size_of, param_of}
use Rattle.tfm_read.specs.Words.{unsigned_at}

-- Each field is the number at its place, in a file of these lengths. The design size is in units of
-- 2^-16 pt, word 7 in units of 2^-20 pt.
pub record IsRead (bytes : List ℕ) (l : Lengths) (tfm : Tfm) : Type 0 where
  pub checksum : tfm.checksum ≡ unsigned_at bytes 6
  pub design : tfm.design ≡ pos (unsigned_at bytes 7 / 16)
  pub chars : tfm.chars ≡ chars_of bytes l
  pub ligs : tfm.ligs ≡ ligs_of bytes l
  pub kerns : tfm.kerns ≡ entries (size_of bytes (places_of l).kerns) l.kerns
  pub params : tfm.params ≡ entries (param_of bytes (places_of l).params l.params) 7
  pub right : tfm.right ≡ right_of (ligs_of bytes l)
  pub left : tfm.left ≡ left_of (ligs_of bytes l)

-- the bytes are the font: no check fails, and each field is the number at its place
pub record IsTfm (bytes : List ℕ) (tfm : Tfm) : Type 0 where
  pub sound : fault_of bytes ≡ None
  pub fields : IsRead bytes (lengths_of bytes) tfm

-- the fact, unless memory ran out
abbrev pub UnlessNoMemory : {X : Type 0} → Result X TfmFault → Type 0 → Type 0
UnlessNoMemory (Err NoMemory) P = Unit {0}
UnlessNoMemory r P = P
