-- What a file says of the characters (TFM description, "char_info").
use Rattle.std.specs.Prelude.{◌≡◌, ℕ, ◌+◌, ◌-◌, ◌/◌, ◌%◌, ◌<◌, Bool, true, ◌&&◌, ◌==◌, nat_le, nat_lt, if◌then◌else◌, IsTrue, pos, List, All, slice_index, slice_index_or, Option, Some, None}
use Rattle.tfm_read.specs.declared.character.CharInfo.{CharInfo}
use Rattle.tfm_read.specs.declared.indices.Indices.{Indices}
use Rattle.tfm_read.specs.declared.indices.Tables.{Tables}
use Rattle.tfm_read.specs.declared.lengths.Lengths.{Lengths}
use Rattle.tfm_read.specs.Entries.{entries}
use Rattle.tfm_read.specs.Lengths.{places_of}
use Rattle.tfm_read.specs.Ranges.{CharFits, no_char}
use Rattle.tfm_read.specs.Sizes.{size_of}
use Rattle.tfm_read.specs.Words.{word_of}

-- the parts of a char_info word
unfoldable pub indices_in : List ℕ → Indices
indices_in word = record {
  width = slice_index word 0;
  height = slice_index word 1 / 16;
  depth = slice_index word 1 % 16;
  italic = slice_index word 2 / 4;
  program = if slice_index word 2 % 4 == 1 then Some (slice_index word 3) else None;
}

-- the parts of a word of zeros
abbrev pub no_indices : Indices
no_indices = record { width = 0; height = 0; depth = 0; italic = 0; program = None }

-- what the char_info word of a code says; codes before the first and after the last have none
unfoldable pub indices_of : List ℕ → Lengths → ℕ → Indices
indices_of bytes l code =
    if nat_le l.first_code code && nat_le code l.last_code
    then indices_in (word_of bytes ((places_of l).chars + (code - l.first_code)))
    else no_indices

-- The character of indices: its sizes are the words of the tables at them, and it doesn't exist where
-- the width index is 0.
unfoldable pub char_of : List ℕ → Lengths → ℕ → CharInfo
char_of bytes l code =
    let i = indices_of bytes l code in
    if i.width == 0
    then no_char
    else record {
      exists = true;
      width = size_of bytes (places_of l).widths i.width;
      height = size_of bytes (places_of l).heights i.height;
      depth = size_of bytes (places_of l).depths i.depth;
      program = i.program;
    }

-- the entries of the 256 codes
unfoldable pub chars_of : List ℕ → Lengths → List CharInfo
chars_of bytes l = entries (char_of bytes l) 256

-- the program is in the ligature words
abbrev pub has_program : Lengths → Option ℕ → Bool
has_program l None = true
has_program l (Some place) = nat_lt place l.ligs

-- each index is in its table, and the program in the ligature words
abbrev pub are_within : Lengths → Indices → Bool
are_within l i =
    nat_lt i.width l.widths
    && nat_lt i.height l.heights
    && nat_lt i.depth l.depths
    && nat_lt i.italic l.italics
    && has_program l i.program

-- what char_info word i from a place on says, each index in its table
abbrev pub AreIndicesAt : List ℕ → Lengths → ℕ → ℕ → Indices → Type 0
AreIndicesAt bytes l place i indices = (indices ≡ indices_in (word_of bytes (place + i))) × IsTrue (are_within l indices)

-- the indices of the 256 codes, each in its table
abbrev pub AreIndices : List ℕ → Lengths → List Indices → Type 0
AreIndices bytes l indices =
    (code : ℕ) → code < 256 → (slice_index_or indices code no_indices ≡ indices_of bytes l code) × IsTrue (are_within l (indices_of bytes l code))

-- the character that tables make of indices
abbrev pub char_by : Tables → Indices → CharInfo
char_by tables i =
    if i.width == 0
    then no_char
    else record {
      exists = true;
      width = slice_index_or tables.widths i.width (pos 0);
      height = slice_index_or tables.heights i.height (pos 0);
      depth = slice_index_or tables.depths i.depth (pos 0);
      program = i.program;
    }

-- the characters of a file, their sizes and programs in range
abbrev pub AreChars : List ℕ → Lengths → List CharInfo → Type 0
AreChars bytes l chars = (chars ≡ chars_of bytes l) × All (CharFits l.ligs) chars
