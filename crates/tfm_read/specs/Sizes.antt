-- What a file says of sizes, fix_words in units of 2^-20 of the design size (TFM description).
use Rattle.std.specs.Prelude.{◌≡◌, ℕ, ◌+◌, ◌<◌, nat_lt, if◌then◌else◌, ℤ, pos, List, length, All, slice_index_or}
use Rattle.tfm_read.specs.Entries.{entries}
use Rattle.micro_num.specs.Scaling.{IsFixWord}
use Rattle.tfm_read.specs.Ranges.{AreParams}
use Rattle.tfm_read.specs.Words.{signed_at}

-- the size at word i of those from a place on
abbrev pub size_of : List ℕ → ℕ → ℕ → ℤ
size_of bytes place i = signed_at bytes (place + i)

-- parameter i of n, 0 where the file has fewer
abbrev pub param_of : List ℕ → ℕ → ℕ → ℕ → ℤ
param_of bytes place n i = if nat_lt i n then size_of bytes place i else pos 0

-- the size at word i, a fix_word
abbrev pub IsSize : List ℕ → ℕ → ℕ → ℤ → Type 0
IsSize bytes place i size = (size ≡ size_of bytes place i) × IsFixWord size

-- the same, but that parameter 0, the slant, may be any number
abbrev pub IsParam : List ℕ → ℕ → ℕ → ℤ → Type 0
IsParam bytes place i size = (size ≡ size_of bytes place i) × (0 < i → IsFixWord size)

-- a table holds the sizes of n words, as far as it goes
abbrev pub IsTable : List ℕ → ℕ → ℕ → List ℤ → Type 0
IsTable bytes place n table =
    (i : ℕ) → i < n → i < length table → IsSize bytes place i (slice_index_or table i (pos 0))

-- the sizes of n words, each a fix_word
abbrev pub AreKerns : List ℕ → ℕ → ℕ → List ℤ → Type 0
AreKerns bytes place n kerns = (kerns ≡ entries (size_of bytes place) n) × All IsFixWord kerns

-- the seven parameters of a file that has n, each but the slant a fix_word
abbrev pub AreParamsOf : List ℕ → ℕ → ℕ → List ℤ → Type 0
AreParamsOf bytes place n params = (params ≡ entries (param_of bytes place n) 7) × AreParams params
