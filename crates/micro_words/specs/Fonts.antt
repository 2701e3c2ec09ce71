-- The font tiny10 as the bytes of its TFM file (TFM description).
--     tiny10     each of the codes 33 to 126 is half a design size wide and high
use Rattle.std.specs.Prelude.{ℕ, ◌/◌, ◌%◌, List, [], ◌∷◌, ◌++◌, replicate}
use Rattle.std.specs.List.{concat}

-- a word of two numbers, high byte first
abbrev pub halves : ℕ → ℕ → List ℕ
halves a b = a / 256 ∷ a % 256 ∷ b / 256 ∷ b % 256 ∷ []

-- a word of one number, high byte first: a fix_word in 2^20ths of the design size
abbrev pub full : ℕ → List ℕ
full n = halves (n / 65536) (n % 65536)

-- the number of words of the file and of its header, the first code and the last, and the numbers
-- of words of the tables
abbrev pub lengths : List ℕ
lengths = halves 115 2 ++ halves 33 126 ++ halves 2 2 ++ halves 1 1 ++ halves 0 0 ++ halves 0 7

-- no checksum, and a design size of 10 points
abbrev pub header : List ℕ
header = full 0 ++ full 10485760

-- width 1, height 1, depth 0, italic correction 0, no tag
abbrev pub character : List ℕ
character = 1 ∷ 16 ∷ 0 ∷ 0 ∷ []

-- slant, space, stretch, shrink, x-height, quad and extra space
abbrev pub parameters : List ℕ
parameters =
    full 0 ++ full 262144 ++ full 131072 ++ full 65536 ++ full 524288 ++ full 1048576 ++ full 0

-- the widths, heights, depths and italic corrections
abbrev pub dimensions : List ℕ
dimensions = full 0 ++ full 524288 ++ full 0 ++ full 524288 ++ full 0 ++ full 0

unfoldable pub tiny10 : List ℕ
tiny10 = lengths ++ header ++ concat (replicate 94 character) ++ dimensions ++ parameters
