-- One step of the rewriting of a run, and the states that steps lead to (TFM description, "lig_kern";
-- TeX: The Program, sections 1032 to 1040).
use Rattle.std.specs.Prelude.{◌≡◌, ℕ, ◌+◌, ◌-◌, ◌*◌, ◌/◌, ◌%◌, ◌<◌, ◌≤◌, ℤ, pos, Bool, true, false, ◌==◌, nat_le, if◌then◌else◌, List, [], ◌∷◌, ◌++◌, take, drop, Option, Some, None, slice_index_or}
use Rattle.std.specs.List.{list_any}
use Rattle.tfm_read.specs.declared.ligature.LigWord.{LigWord}
use Rattle.tfm_read.specs.declared.tfm.Tfm.{Tfm}
use Rattle.lig_kern.specs.Programs.{acting_word}
use Rattle.lig_kern.specs.Symbols.{glyphs_of}
use Rattle.lig_kern.specs.declared.glyph.Glyph.{Glyph}
use Rattle.lig_kern.specs.declared.operation.Operation.{Operation}
use Rattle.lig_kern.specs.declared.symbols.SymbolKind.TheVariants.{Ligature, FontKern}
use Rattle.lig_kern.specs.declared.symbols.Symbol.{Symbol}

-- An op of a ligature is 4a + 2b + c: it passes over a symbols, keeps the current symbol where b is 1
-- and the next where c is 1. The eight that are 0, 1, 2, 3, 5, 6, 7 and 11 have a meaning, and any
-- other is read as 0.
abbrev pub has_meaning : ℕ → Bool
has_meaning op = list_any (λ known. op == known) (0 ∷ 1 ∷ 2 ∷ 3 ∷ 5 ∷ 6 ∷ 7 ∷ 11 ∷ [])

abbrev pub parts_of : ℕ → Operation
parts_of op = record { passes = op / 4; keeps_current = op / 2 % 2 == 1; keeps_next = op % 2 == 1 }

unfoldable pub operation_of : ℕ → Operation
operation_of op = if has_meaning op then parts_of op else parts_of 0

-- a symbol that is deleted, unless it is kept, before others
abbrev pub dropped : Bool → Symbol → List Symbol → List Symbol
dropped true symbol others = others
dropped false symbol others = symbol ∷ others

-- where the last of some symbols ends
abbrev pub last_end : ℕ → List Symbol → ℕ
last_end end [] = end
last_end end (symbol ∷ symbols) = last_end symbol.to symbols

-- the union of the intervals of adjoining symbols, and nothing, at a place, where there are none
abbrev pub union_at : ℕ → List Symbol → ℕ × ℕ
union_at place [] = (place, place)
union_at place (symbol ∷ symbols) = (symbol.from, last_end symbol.to symbols)

-- A ligature between two symbols covers the union of what the deleted ones cover. Where none is
-- deleted it covers nothing, at the place where the two meet.
abbrev pub cover : Bool → Bool → Symbol → Symbol → ℕ × ℕ
cover keeps_current keeps_next current follower =
    union_at current.to (dropped keeps_current current (dropped keeps_next follower []))

abbrev pub ligature_between : Operation → ℕ → Symbol → Symbol → Symbol
ligature_between op code current follower =
    let covered = cover op.keeps_current op.keeps_next current follower in
    record { kind = Ligature code; from = covered.0; to = covered.1 }

-- a symbol that stays before others, where it is kept
abbrev pub kept : Bool → Symbol → List Symbol → List Symbol
kept true symbol ahead = symbol ∷ ahead
kept false symbol ahead = ahead

-- what a step does to the symbols from the cursor on
pub record Move : Type 0 where
  -- how many words act in it, 0 or 1
  pub acts : ℕ
  -- the symbols that the cursor passes over
  pub passed : List Symbol
  -- the symbols from the new cursor on
  pub ahead : List Symbol

-- no word acts: the cursor moves on
abbrev pub moves_on : Symbol → List Symbol → Move
moves_on current ahead = record { acts = 0; passed = current ∷ []; ahead = ahead }

-- a kern is put before the next symbol, and the cursor moves to that
abbrev pub kern_of : List ℤ → LigWord → ℤ
kern_of kerns word = slice_index_or kerns (256 * (word.op - 128) + word.rest) (pos 0)

abbrev pub kern_after : Symbol → ℤ → Symbol
kern_after current fix = record { kind = FontKern fix; from = current.to; to = current.to }

abbrev pub puts_kern : ℤ → Symbol → List Symbol → Move
puts_kern fix current ahead =
    record { acts = 1; passed = current ∷ kern_after current fix ∷ []; ahead = ahead }

-- A ligature is put between the two, of which those are deleted that the operation doesn't keep. The
-- cursor goes to the first of the three that is left, and then passes over symbols.
abbrev pub with_ligature : Operation → ℕ → Symbol → Symbol → List Symbol → List Symbol
with_ligature op code current follower rest =
    kept op.keeps_current current (ligature_between op code current follower ∷ kept op.keeps_next follower rest)

abbrev pub puts_ligature : Operation → ℕ → Symbol → Symbol → List Symbol → Move
puts_ligature op code current follower rest =
    let ahead = with_ligature op code current follower rest in
    record { acts = 1; passed = take op.passes ahead; ahead = drop op.passes ahead }

-- the step by the word that acts, if one does
abbrev pub move_by : List ℤ → Option LigWord → Symbol → Symbol → List Symbol → Move
move_by kerns None current follower rest = moves_on current (follower ∷ rest)
move_by kerns (Some word) current follower rest =
    if nat_le 128 word.op then puts_kern (kern_of kerns word) current (follower ∷ rest)
    else puts_ligature (operation_of word.op) word.rest current follower rest

-- the step at a current symbol and those after it
abbrev pub move_at : Tfm → Symbol → List Symbol → Move
move_at tfm current [] = moves_on current []
move_at tfm current (follower ∷ rest) =
    move_by tfm.kerns (acting_word tfm current.kind follower.kind) current follower rest

-- From a list with the cursor at its head, steps lead to the list of the symbols before the cursor and
-- of those from it on, and so many words have acted in them.
pub data Reached (tfm : Tfm) (start : List Symbol) : ℕ → List Symbol → List Symbol → Type 0 where
  begins : Reached tfm start 0 [] start
  goes_on : (acted : ℕ) (before : List Symbol) (current : Symbol) (rest : List Symbol)
      → Reached tfm start acted before (current ∷ rest)
      → Reached tfm start (acted + (move_at tfm current rest).acts)
      (before ++ (move_at tfm current rest).passed) (move_at tfm current rest).ahead

-- the steps come to the end of the list, at most so many words have acted, and these are the glyphs
pub record EndsWithin (tfm : Tfm) (start : List Symbol) (limit : ℕ) (glyphs : List Glyph) : Type 0 where
  pub acted : ℕ
  pub symbols : List Symbol
  pub ends : Reached tfm start acted symbols []
  pub within : acted ≤ limit
  pub gives : glyphs_of symbols ≡ glyphs

-- the steps come to a state for which more words have acted
pub record GoesPast (tfm : Tfm) (start : List Symbol) (limit : ℕ) : Type 0 where
  pub acted : ℕ
  pub before : List Symbol
  pub ahead : List Symbol
  pub comes : Reached tfm start acted before ahead
  pub past : limit < acted
