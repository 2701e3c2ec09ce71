-- The lig/kern programs of a font: where the program of a symbol starts, and which of its words acts
-- before a code (TFM description, "lig_kern"; TeX: The Program, sections 545, 1034 and 1039).
use Rattle.std.specs.Prelude.{ℕ, zero, suc, ◌+◌, ◌*◌, Bool, ◌&&◌, ◌==◌, nat_lt, nat_le, if◌then◌else◌, List, [], ◌∷◌, Option, Some, None, slice_index_or, option_map}
use Rattle.tfm_read.specs.Ranges.{no_char}
use Rattle.tfm_read.specs.declared.ligature.LigWord.{LigWord}
use Rattle.tfm_read.specs.declared.tfm.Tfm.{Tfm}
use Rattle.lig_kern.specs.Symbols.{code_of}
use Rattle.lig_kern.specs.declared.symbols.SymbolKind.{SymbolKind}
use Rattle.lig_kern.specs.declared.symbols.SymbolKind.TheVariants.{LeftBoundary, RightBoundary, Character, Ligature, FontKern}

-- what is read past the words of a font, which no program reaches
abbrev pub no_word : LigWord
no_word = record { skip = 255; «next» = 0; op = 0; rest = 0 }

-- A character's program starts at its place, or, where the word there has a skip above 128, where
-- that word leads.
abbrev pub entry : List LigWord → ℕ → ℕ
entry ligs place =
    let first = slice_index_or ligs place no_word in
    if nat_lt 128 first.skip then 256 * first.op + first.rest else place

-- the place where the program of a code's character starts
abbrev pub character_program : Tfm → ℕ → Option ℕ
character_program tfm code = option_map (entry tfm.ligs) (slice_index_or tfm.chars code no_char).program

-- the place where the program of a symbol starts: the left program starts at its first word, whatever
-- that word's skip, and a right boundary has no program
unfoldable pub program_of : Tfm → SymbolKind → Option ℕ
program_of tfm LeftBoundary = tfm.left
program_of tfm (RightBoundary code) = None
program_of tfm (Character code) = character_program tfm code
program_of tfm (Ligature code) = character_program tfm code
program_of tfm (FontKern fix) = None

-- a word acts before a code that is its `next`, unless its skip is above 128
abbrev pub acts_before : LigWord → ℕ → Bool
acts_before word code = nat_le word.skip 128 && (word.«next» == code)

-- The word that acts before a code, once so many words are passed over: the first word then acts, or
-- ends the program by a skip of 128 or more, or has `skip` words passed over.
unfoldable pub walk : ℕ → ℕ → List LigWord → Option LigWord
walk code passed [] = None
walk code (suc passed) (word ∷ words) = walk code passed words
walk code zero (word ∷ words) =
    if acts_before word code then Some word
    else if nat_le 128 word.skip then None
    else walk code word.skip words

-- the word that acts between a program's symbol and a next one, where both are there
abbrev pub word_between : List LigWord → Option ℕ → Option ℕ → Option LigWord
word_between ligs None code = None
word_between ligs (Some place) None = None
word_between ligs (Some place) (Some code) = walk code place ligs

-- the word that acts between two symbols
abbrev pub acting_word : Tfm → SymbolKind → SymbolKind → Option LigWord
acting_word tfm current follower = word_between tfm.ligs (program_of tfm current) (code_of follower)
