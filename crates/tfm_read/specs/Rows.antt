-- Small fonts and their faults, by computing from the checks of the TFM description.
use Rattle.std.specs.Prelude.{◌≡◌, refl, ℕ, List, [], ◌∷◌, ◌++◌, take, replicate, Some, None}
use Rattle.std.specs.Int.{w32, to_be_bytes}
use Rattle.std.specs.List.{flat_map}
use Rattle.tfm_read.specs.declared.fault.TfmFaultKind.TheVariants.{Short, LengthsDisagree, IndexPast, NotZeroFirst, BadFix, LigPast, NoSuchChar, DesignTooSmall}
use Rattle.tfm_read.specs.Characters.{indices_in, indices_of, char_of, chars_of}
use Rattle.tfm_read.specs.Checks.{fault_of, lengths_fault, parts_fault, tables_fault, words_fault, characters_fault, design_fault, char_check, table_check, fix_check, param_check, lig_check, lig_fault}
use Rattle.tfm_read.specs.Entries.{entries, first_of}
use Rattle.tfm_read.specs.Lengths.{places_of}
use Rattle.tfm_read.specs.Words.{byte_of, halfword_at, unsigned_number}

-- the bytes of words
abbrev file : List ℕ → List ℕ
file words = flat_map (to_be_bytes w32) words

-- A font of the codes 33 to 126, each half a design size wide and high, with no ligatures. Its lengths,
-- design size, first char_info word, first width, slant and space are left open.
abbrev small : (lengths design char width slant space : ℕ) → List ℕ
small lengths design char width slant space = file (
    (lengths ∷ 0x0021_007e ∷ 0x0002_0002 ∷ 0x0001_0001 ∷ 0 ∷ 7 ∷ 0 ∷ design ∷ char ∷ [])
    ++ replicate 93 0x0110_0000
    ++ (width ∷ 524288 ∷ 0 ∷ 524288 ∷ 0 ∷ 0 ∷ slant ∷ space ∷ 131072 ∷ 65536 ∷ 524288 ∷ 1048576 ∷ 0 ∷ []))

-- A font of the codes 97 to 99, of which 97 has a program. The words of the program are left open; the
-- right boundary character is 0, and the left boundary's program starts at the place that the last tells.
abbrev ligatures : (second third last : ℕ) → List ℕ
ligatures second third last = file (
    0x001d_0002 ∷ 0x0061_0063 ∷ 0x0002_0002 ∷ 0x0001_0001 ∷ 0x0004_0001 ∷ 7 ∷ 0 ∷ 10485760
    ∷ 0x0110_0101 ∷ 0x0110_0000 ∷ 0x0110_0000 ∷ 0 ∷ 524288 ∷ 0 ∷ 524288 ∷ 0 ∷ 0
    ∷ 0xff00_0000 ∷ second ∷ third ∷ last ∷ 0xffff_0000
    ∷ 0 ∷ 262144 ∷ 131072 ∷ 65536 ∷ 524288 ∷ 1048576 ∷ 0 ∷ [])

-- no check fails
small_is_a_font : fault_of (small 0x0073_0002 10485760 0x0110_0000 0 0 262144) ≡ None
unfolding fault_of lengths_fault parts_fault tables_fault words_fault characters_fault design_fault char_check table_check fix_check param_check lig_check lig_fault entries first_of places_of byte_of halfword_at unsigned_number indices_in indices_of char_of chars_of
small_is_a_font = refl

-- a byte is cut off, and 114 words are whole
cut_is_short : fault_of (take 459 (small 0x0073_0002 10485760 0x0110_0000 0 0 262144)) ≡ Some (record { kind = Short; word = 114 })
unfolding fault_of lengths_fault parts_fault tables_fault words_fault characters_fault design_fault char_check table_check fix_check param_check lig_check lig_fault entries first_of places_of byte_of halfword_at unsigned_number indices_in indices_of char_of chars_of
cut_is_short = refl

-- it tells of a word more than its parts have
longer_disagrees : fault_of (small 0x0074_0002 10485760 0x0110_0000 0 0 262144) ≡ Some (record { kind = LengthsDisagree; word = 0 })
unfolding fault_of lengths_fault parts_fault tables_fault words_fault characters_fault design_fault char_check table_check fix_check param_check lig_check lig_fault entries first_of places_of byte_of halfword_at unsigned_number indices_in indices_of char_of chars_of
longer_disagrees = refl

-- the design size is a little below 1pt
design_is_small : fault_of (small 0x0073_0002 1048575 0x0110_0000 0 0 262144) ≡ Some (record { kind = DesignTooSmall; word = 7 })
unfolding fault_of lengths_fault parts_fault tables_fault words_fault characters_fault design_fault char_check table_check fix_check param_check lig_check lig_fault entries first_of places_of byte_of halfword_at unsigned_number indices_in indices_of char_of chars_of
design_is_small = refl

-- the table of widths has two words
width_index_is_past : fault_of (small 0x0073_0002 10485760 0x0210_0000 0 0 262144) ≡ Some (record { kind = IndexPast; word = 8 })
unfolding fault_of lengths_fault parts_fault tables_fault words_fault characters_fault design_fault char_check table_check fix_check param_check lig_check lig_fault entries first_of places_of byte_of halfword_at unsigned_number indices_in indices_of char_of chars_of
width_index_is_past = refl

first_width_is_not_zero : fault_of (small 0x0073_0002 10485760 0x0110_0000 1 0 262144) ≡ Some (record { kind = NotZeroFirst; word = 102 })
unfolding fault_of lengths_fault parts_fault tables_fault words_fault characters_fault design_fault char_check table_check fix_check param_check lig_check lig_fault entries first_of places_of byte_of halfword_at unsigned_number indices_in indices_of char_of chars_of
first_width_is_not_zero = refl

slant_is_any_number : fault_of (small 0x0073_0002 10485760 0x0110_0000 0 0x0100_0000 262144) ≡ None
unfolding fault_of lengths_fault parts_fault tables_fault words_fault characters_fault design_fault char_check table_check fix_check param_check lig_check lig_fault entries first_of places_of byte_of halfword_at unsigned_number indices_in indices_of char_of chars_of
slant_is_any_number = refl

space_is_no_size : fault_of (small 0x0073_0002 10485760 0x0110_0000 0 0 0x0104_0000) ≡ Some (record { kind = BadFix; word = 109 })
unfolding fault_of lengths_fault parts_fault tables_fault words_fault characters_fault design_fault char_check table_check fix_check param_check lig_check lig_fault entries first_of places_of byte_of halfword_at unsigned_number indices_in indices_of char_of chars_of
space_is_no_size = refl

-- b makes c with a, a kern stands before c
ligatures_are_a_font : fault_of (ligatures 0x0062_0063 0x8063_8000 0xff00_0001) ≡ None
unfolding fault_of lengths_fault parts_fault tables_fault words_fault characters_fault design_fault char_check table_check fix_check param_check lig_check lig_fault entries first_of places_of byte_of halfword_at unsigned_number indices_in indices_of char_of chars_of
ligatures_are_a_font = refl

-- there is one kern
kern_is_past : fault_of (ligatures 0x0062_8001 0x8063_8000 0xff00_0001) ≡ Some (record { kind = LigPast; word = 18 })
unfolding fault_of lengths_fault parts_fault tables_fault words_fault characters_fault design_fault char_check table_check fix_check param_check lig_check lig_fault entries first_of places_of byte_of halfword_at unsigned_number indices_in indices_of char_of chars_of
kern_is_past = refl

-- code 100 is no character
char_is_missing : fault_of (ligatures 0x0062_0064 0x8063_8000 0xff00_0001) ≡ Some (record { kind = NoSuchChar; word = 18 })
unfolding fault_of lengths_fault parts_fault tables_fault words_fault characters_fault design_fault char_check table_check fix_check param_check lig_check lig_fault entries first_of places_of byte_of halfword_at unsigned_number indices_in indices_of char_of chars_of
char_is_missing = refl

of_both_the_char_is_told : fault_of (ligatures 0x0064_8001 0x8063_8000 0xff00_0001) ≡ Some (record { kind = NoSuchChar; word = 18 })
unfolding fault_of lengths_fault parts_fault tables_fault words_fault characters_fault design_fault char_check table_check fix_check param_check lig_check lig_fault entries first_of places_of byte_of halfword_at unsigned_number indices_in indices_of char_of chars_of
of_both_the_char_is_told = refl

-- the third word passes over one of the words, to a fifth
skip_is_past : fault_of (ligatures 0x0062_0063 0x0163_8000 0xff00_0001) ≡ Some (record { kind = LigPast; word = 19 })
unfolding fault_of lengths_fault parts_fault tables_fault words_fault characters_fault design_fault char_check table_check fix_check param_check lig_check lig_fault entries first_of places_of byte_of halfword_at unsigned_number indices_in indices_of char_of chars_of
skip_is_past = refl

left_program_is_past : fault_of (ligatures 0x0062_0063 0x8063_8000 0xff00_0004) ≡ Some (record { kind = LigPast; word = 20 })
unfolding fault_of lengths_fault parts_fault tables_fault words_fault characters_fault design_fault char_check table_check fix_check param_check lig_check lig_fault entries first_of places_of byte_of halfword_at unsigned_number indices_in indices_of char_of chars_of
left_program_is_past = refl
