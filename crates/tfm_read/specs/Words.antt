-- The numbers of a file by their places. A word is four bytes and a halfword is two, the highest first,
-- and both are counted from 0 (TFM description).
use Rattle.std.specs.Prelude.{ℕ, ◌+◌, ◌*◌, ℤ, List, [], ◌∷◌, slice_index}
use Rattle.std.specs.Int.{w32, cast_signed}
use Rattle.byteorder.specs.Endian.{big_number}

-- byte j of a word
unfoldable pub byte_of : List ℕ → ℕ → ℕ → ℕ
byte_of bytes word j = slice_index bytes (4 * word + j)

-- the four bytes of a word
abbrev pub word_of : List ℕ → ℕ → List ℕ
word_of bytes word =
    byte_of bytes word 0 ∷ byte_of bytes word 1 ∷ byte_of bytes word 2 ∷ byte_of bytes word 3 ∷ []

-- the number that four bytes are
unfoldable pub unsigned_number : List ℕ → ℕ
unsigned_number word = big_number 4 word

-- the same as a signed number, by two's complement
unfoldable pub signed_number : List ℕ → ℤ
signed_number word = cast_signed w32 (big_number 4 word)

-- a word as a number
abbrev pub unsigned_at : List ℕ → ℕ → ℕ
unsigned_at bytes word = unsigned_number (word_of bytes word)

-- a word as a signed number
abbrev pub signed_at : List ℕ → ℕ → ℤ
signed_at bytes word = signed_number (word_of bytes word)

-- a halfword as a number
unfoldable pub halfword_at : List ℕ → ℕ → ℕ
halfword_at bytes n = big_number 2 (slice_index bytes (2 * n) ∷ slice_index bytes (2 * n + 1) ∷ [])
