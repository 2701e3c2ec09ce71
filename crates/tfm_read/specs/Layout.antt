-- What the checks of the lengths give to those who read the parts (TFM description).
use Rattle.std.specs.Prelude.{◌≡◌, ℕ, ◌+◌, ◌*◌, ◌/◌, ◌<◌, ◌≤◌, ℤ, pos, List, length, All}
use Rattle.tfm_read.specs.declared.lengths.Lengths.{Lengths}
use Rattle.tfm_read.specs.Entries.{entries}
use Rattle.tfm_read.specs.Lengths.{lengths_of, places_of}
use Rattle.tfm_read.specs.Ranges.{IsDesignSize}
use Rattle.tfm_read.specs.Words.{halfword_at, unsigned_at}

-- the halfwords of words 0 to 5, each below 2^15
pub record AreHalfwords (bytes halfwords : List ℕ) : Type 0 where
  pub told : halfwords ≡ entries (halfword_at bytes) 12
  pub small : All (λ halfword. halfword < 32768) halfwords

-- the lengths that a file tells, with room for the codes
pub record AreLengths (bytes : List ℕ) (l : Lengths) : Type 0 where
  pub told : l ≡ lengths_of bytes
  pub whole : 24 ≤ length bytes
  pub file : l.file < 32768
  pub header : 2 ≤ l.header
  pub codes : l.first_code ≤ l.last_code + 1
  pub last : l.last_code ≤ 255

-- no table of sizes is empty
pub record HasTables (l : Lengths) : Type 0 where
  pub widths : 0 < l.widths
  pub heights : 0 < l.heights
  pub depths : 0 < l.depths
  pub italics : 0 < l.italics

-- the parts follow one another within the bytes, and no table of sizes is empty
pub record IsLaidOut (bytes : List ℕ) (l : Lengths) : Type 0 where
  pub header : 2 ≤ l.header
  pub codes : l.first_code ≤ l.last_code + 1
  pub last : l.last_code ≤ 255
  pub end : (places_of l).end < 32768
  pub within : 4 * (places_of l).end ≤ length bytes
  pub widths : 0 < l.widths
  pub heights : 0 < l.heights
  pub depths : 0 < l.depths
  pub italics : 0 < l.italics

-- a design size in sp, of word 7 in units of 2^-20 pt
pub record IsDesignOf (bytes : List ℕ) (design : ℤ) : Type 0 where
  pub told : design ≡ pos (unsigned_at bytes 7 / 16)
  pub fits : IsDesignSize design
