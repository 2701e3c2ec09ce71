-- The answer of a run over codes.
use Rattle.std.specs.Prelude.{◌≡◌, ℕ, ◌+◌, ◌*◌, ◌<◌, ⊤, Bool, true, false, List, [], ◌∷◌, length, slice_index_or, Option, Some, None, Result, Ok, Err}
use Rattle.tfm_read.specs.Ranges.{exists_at}
use Rattle.tfm_read.specs.declared.character.CharInfo.{CharInfo}
use Rattle.tfm_read.specs.declared.tfm.Tfm.{Tfm}
use Rattle.lig_kern.specs.Rewriting.{EndsWithin, GoesPast}
use Rattle.lig_kern.specs.declared.fault.LigFault.{LigFault}
use Rattle.lig_kern.specs.declared.fault.LigFault.TheVariants.{TooManySteps, Missing, NoMemory}
use Rattle.lig_kern.specs.declared.glyph.Glyph.{Glyph}
use Rattle.lig_kern.specs.declared.symbols.SymbolKind.TheVariants.{LeftBoundary, RightBoundary, Character}
use Rattle.lig_kern.specs.declared.symbols.Symbol.{Symbol}

-- the left boundary, where it is asked for and the font has a program for it
abbrev pub left_symbols : Bool → Option ℕ → List Symbol → List Symbol
left_symbols true (Some place) ahead = record { kind = LeftBoundary; from = 0; to = 0 } ∷ ahead
left_symbols true None ahead = ahead
left_symbols false program ahead = ahead

-- the right boundary after n codes, where it is asked for and the font has a character for it
abbrev pub right_symbols : Bool → Option ℕ → ℕ → List Symbol → List Symbol
right_symbols true (Some code) n ahead = record { kind = RightBoundary code; from = n; to = n } ∷ ahead
right_symbols true None n ahead = ahead
right_symbols false boundary n ahead = ahead

-- a code's symbol covers the code itself
abbrev pub character_at : ℕ → ℕ → Symbol
character_at code at = record { kind = Character code; from = at; to = at + 1 }

-- the symbols of the codes from number `at` on, and then others
abbrev pub code_symbols : ℕ → List ℕ → List Symbol → List Symbol
code_symbols at [] others = others
code_symbols at (code ∷ codes) others = character_at code at ∷ code_symbols (at + 1) codes others

-- the list that a run starts as
abbrev pub start_of : Tfm → List ℕ → Bool → Bool → List Symbol
start_of tfm codes left right =
    left_symbols left tfm.left (code_symbols 0 codes (right_symbols right tfm.right (length codes) []))

-- the font has a character for each code
abbrev pub AllExist : List CharInfo → List ℕ → Type 0
AllExist chars codes = (k : ℕ) → k < length codes → exists_at chars (slice_index_or codes k 0) ≡ true

-- this is the first code for which the font has no character
pub record IsFirstMissing (chars : List CharInfo) (codes : List ℕ) (index : ℕ) : Type 0 where
  pub within : index < length codes
  pub missing : exists_at chars (slice_index_or codes index 0) ≡ false
  pub before : (k : ℕ) → k < index → exists_at chars (slice_index_or codes k 0) ≡ true

-- how many words may act on a run
abbrev pub limit_of : List ℕ → ℕ
limit_of codes = 256 * (length codes + 2)

-- the run comes to its end within the limit, and these are its glyphs
pub record IsRun (tfm : Tfm) (codes : List ℕ) (left right : Bool) (glyphs : List Glyph) : Type 0 where
  pub exist : AllExist tfm.chars codes
  pub ends : EndsWithin tfm (start_of tfm codes left right) (limit_of codes) glyphs

-- more words act on the run than the limit
pub record PassesLimit (tfm : Tfm) (codes : List ℕ) (left right : Bool) : Type 0 where
  pub exist : AllExist tfm.chars codes
  pub past : GoesPast tfm (start_of tfm codes left right) (limit_of codes)

-- the answer of a run whose glyphs stand in a list, where it has any
abbrev pub given : {A : Type 0} → Result A LigFault → List Glyph → Result (List Glyph) LigFault
given (Ok made) glyphs = Ok glyphs
given (Err fault) glyphs = Err fault

-- what each answer means
abbrev pub Answers : Tfm → List ℕ → Bool → Bool → Result (List Glyph) LigFault → Type 0
Answers tfm codes left right (Ok glyphs) = IsRun tfm codes left right glyphs
Answers tfm codes left right (Err TooManySteps) = PassesLimit tfm codes left right
Answers tfm codes left right (Err (Missing index)) = IsFirstMissing tfm.chars codes index
Answers tfm codes left right (Err NoMemory) = ⊤

-- what each end of the rewriting of a list means
abbrev pub ComesTo : Tfm → List Symbol → ℕ → Result (List Glyph) LigFault → Type 0
ComesTo tfm start limit (Ok glyphs) = EndsWithin tfm start limit glyphs
ComesTo tfm start limit (Err TooManySteps) = GoesPast tfm start limit
ComesTo tfm start limit (Err (Missing index)) = ⊥
ComesTo tfm start limit (Err NoMemory) = ⊤
