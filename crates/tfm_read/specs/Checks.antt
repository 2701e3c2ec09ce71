-- The checks of a TFM file, in their order, and the first that fails (TFM description; TeX: The Program,
-- sections 564 to 575).
use Rattle.std.specs.Prelude.{◌≡◌, ℕ, ◌+◌, ◌-◌, ◌*◌, ◌/◌, ◌^◌, Bool, ◌&&◌, ◌||◌, not, ◌==◌, nat_le, nat_lt, if◌then◌else◌, List, [], ◌∷◌, length, Option, Some, None, Result, Ok, Err}
use Rattle.tfm_read.specs.declared.character.CharInfo.{CharInfo}
use Rattle.tfm_read.specs.declared.fault.TfmFault.{TfmFault}
use Rattle.tfm_read.specs.declared.fault.TfmFault.TheVariants.{NoMemory, At}
use Rattle.tfm_read.specs.declared.fault.TfmFaultKind.{TfmFaultKind}
use Rattle.tfm_read.specs.declared.fault.TfmFaultKind.TheVariants.{Short, LengthsDisagree, BadRange, EmptyTable, IndexPast, NotZeroFirst, BadFix, LigPast, NoSuchChar, DesignTooSmall}
use Rattle.tfm_read.specs.declared.lengths.Lengths.{Lengths}
use Rattle.tfm_read.specs.declared.ligature.LigWord.{LigWord}
use Rattle.tfm_read.specs.Characters.{indices_in, are_within, chars_of}
use Rattle.tfm_read.specs.Entries.{first_of, first_in}
use Rattle.tfm_read.specs.Lengths.{lengths_of, code_count, places_of}
use Rattle.tfm_read.specs.Ligatures.{lig_of, ligs_of, right_of}
use Rattle.tfm_read.specs.Ranges.{exists_at, is_boundary}
use Rattle.tfm_read.specs.Words.{byte_of, word_of, halfword_at, unsigned_at}

-- a check that failed, and the word that it failed at
pub record Fault : Type 0 where
  pub kind : TfmFaultKind
  pub word : ℕ

-- what a check answers: a fault exactly where it doesn't pass
abbrev pub check : Bool → TfmFaultKind → ℕ → Option Fault
check passes kind word = if passes then None else Some (record { kind = kind; word = word })

-- the first bytes are there, the lengths are below 2^15, and the codes are from 0 to 255; no code at
-- all is written as one from 1 past the last
abbrev pub size_check : List ℕ → Option Fault
size_check bytes = check (nat_le 24 (length bytes)) Short (length bytes / 4)

abbrev pub halfword_check : List ℕ → ℕ → Option Fault
halfword_check bytes n = check (nat_lt (halfword_at bytes n) 32768) BadRange (n / 2)

unfoldable pub lengths_fault : List ℕ → Option Fault
lengths_fault bytes =
    let l = lengths_of bytes in
    first_in (
    size_check bytes
    ∷ first_of (halfword_check bytes) 12
    ∷ check (nat_le 2 l.header) BadRange 0
    ∷ check (nat_le l.first_code (l.last_code + 1) && nat_le l.last_code 255) BadRange 1
    ∷ [])

-- the parts make up the file
abbrev pub sum_check : Lengths → Option Fault
sum_check l = check (l.file == (places_of l).end) LengthsDisagree 0

-- no table of sizes is empty
unfoldable pub tables_fault : Lengths → Option Fault
tables_fault l =
    first_in (
    check (nat_lt 0 l.widths) EmptyTable 2
    ∷ check (nat_lt 0 l.heights) EmptyTable 2
    ∷ check (nat_lt 0 l.depths) EmptyTable 3
    ∷ check (nat_lt 0 l.italics) EmptyTable 3
    ∷ [])

-- the words of the file are there
abbrev pub whole_check : List ℕ → Lengths → Option Fault
whole_check bytes l = check (nat_le (4 * l.file) (length bytes)) Short (length bytes / 4)

-- the file as a whole
unfoldable pub parts_fault : List ℕ → Lengths → Option Fault
parts_fault bytes l = first_in (sum_check l ∷ tables_fault l ∷ whole_check bytes l ∷ [])

-- the design size, word 7, is at least 1pt in units of 2^-20 pt, as a signed number
unfoldable pub design_fault : List ℕ → Option Fault
design_fault bytes =
    check (nat_le (2 ^ 20) (unsigned_at bytes 7) && nat_lt (unsigned_at bytes 7) (2 ^ 31)) DesignTooSmall 7

-- each index of a char_info word is in its table, and its program in the ligature words
unfoldable pub char_check : List ℕ → Lengths → ℕ → ℕ → Option Fault
char_check bytes l place i = check (are_within l (indices_in (word_of bytes (place + i)))) IndexPast (place + i)

-- a size is from -16 to 16 design sizes: the first byte of the word is 0 or 255
unfoldable pub fix_check : List ℕ → ℕ → ℕ → Option Fault
fix_check bytes place i =
    check (byte_of bytes (place + i) 0 == 0 || byte_of bytes (place + i) 0 == 255) BadFix (place + i)

-- the first word of a table of sizes is 0
unfoldable pub table_check : List ℕ → ℕ → ℕ → Option Fault
table_check bytes place i =
    if i == 0 then check (unsigned_at bytes place == 0) NotZeroFirst place else fix_check bytes place i

-- the slant, the first parameter, may be any number
unfoldable pub param_check : List ℕ → ℕ → ℕ → Option Fault
param_check bytes place i = if i == 0 then None else fix_check bytes place i

-- a ligature word that may act names a character that the font doesn't have
abbrev pub names_missing : List CharInfo → Option ℕ → LigWord → Bool
names_missing chars right w =
    nat_le w.skip 128
    && (not (exists_at chars w.next || is_boundary right w.next) || (nat_lt w.op 128 && not (exists_at chars w.rest)))

-- the ligature word i of n leads past the last, or names a kern past the last
abbrev pub leads_past : (kerns n i : ℕ) → LigWord → Bool
leads_past kerns n i w =
    if nat_lt 128 w.skip
    then nat_le n (256 * w.op + w.rest)
    else (nat_le 128 w.op && nat_le kerns (256 * (w.op - 128) + w.rest)) || (nat_lt w.skip 128 && nat_le n (i + w.skip + 1))

-- what is wrong with a ligature word; of two faults it is the missing character
unfoldable pub lig_fault : List CharInfo → Option ℕ → (kerns n i : ℕ) → LigWord → Option TfmFaultKind
lig_fault chars right kerns n i w =
    if names_missing chars right w then Some NoSuchChar else if leads_past kerns n i w then Some LigPast else None

abbrev pub fault_at : ℕ → Option TfmFaultKind → Option Fault
fault_at word None = None
fault_at word (Some kind) = Some (record { kind = kind; word = word })

unfoldable pub lig_check : List ℕ → List CharInfo → Option ℕ → (kerns n place i : ℕ) → Option Fault
lig_check bytes chars right kerns n place i =
    fault_at (place + i) (lig_fault chars right kerns n i (lig_of bytes place i))

-- the char_info words and the tables that they point into, one word after the other
unfoldable pub characters_fault : List ℕ → Lengths → Option Fault
characters_fault bytes l =
    let p = places_of l in
    first_in (
    first_of (char_check bytes l p.chars) (code_count l)
    ∷ first_of (table_check bytes p.widths) l.widths
    ∷ first_of (table_check bytes p.heights) l.heights
    ∷ first_of (table_check bytes p.depths) l.depths
    ∷ first_of (table_check bytes p.italics) l.italics
    ∷ [])

-- the design size, and then the words from the first char_info word on, one by one; recipes are stepped
-- over
unfoldable pub words_fault : List ℕ → Lengths → Option Fault
words_fault bytes l =
    let p = places_of l in
    first_in (
    design_fault bytes
    ∷ characters_fault bytes l
    ∷ first_of (lig_check bytes (chars_of bytes l) (right_of (ligs_of bytes l)) l.kerns l.ligs p.ligs) l.ligs
    ∷ first_of (fix_check bytes p.kerns) l.kerns
    ∷ first_of (param_check bytes p.params) l.params
    ∷ [])

-- the first check of a file that fails
unfoldable pub fault_of : List ℕ → Option Fault
fault_of bytes =
    first_in (lengths_fault bytes ∷ parts_fault bytes (lengths_of bytes) ∷ words_fault bytes (lengths_of bytes) ∷ [])

-- What a part of the reader answers: a value of which P holds where no check fails, else the first
-- fault. Memory may run out.
abbrev pub Answers : {X : Type 0} → Result X TfmFault → Option Fault → (X → Type 0) → Type 0
Answers (Ok x) fault P = (fault ≡ None) × P x
Answers (Err NoMemory) fault P = Unit {0}
Answers (Err (At kind word)) fault P = fault ≡ Some (record { kind = kind; word = word })
