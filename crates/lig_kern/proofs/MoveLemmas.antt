-- A step in which no word acts makes what is ahead shorter by the current symbol, and one in which a
-- word acts makes it longer by one symbol at most.
use Rattle.std.proofs.Common.{ℕ, ◌+◌, ◌*◌, ◌≤◌, Bool, true, false, List, [], ◌∷◌, length, arith, length-drop}
use Rattle.std.specs.Prelude.{Option, Some, None, ℤ, nat_le, if◌then◌else◌}
use Rattle.tfm_read.specs.declared.ligature.LigWord.{LigWord}
use Rattle.tfm_read.specs.declared.tfm.Tfm.{Tfm}
use Rattle.lig_kern.specs.Programs.{acting_word}
use Rattle.lig_kern.specs.Rewriting.{Move, kept, ligature_between, with_ligature, puts_ligature, puts_kern, kern_of, operation_of, move_by, move_at}
use Rattle.lig_kern.specs.declared.operation.Operation.{Operation}
use Rattle.lig_kern.specs.declared.symbols.Symbol.{Symbol}

-- so much longer is what is ahead after a move than the symbols after the current one
pub record Grows (rest : List Symbol) (move : Move) : Type 0 where
  pub few : move.acts ≤ 1
  pub size : length move.ahead ≤ length rest + 2 * move.acts

kept-length : (keeps : Bool) (symbol : Symbol) (ahead : List Symbol) → length (kept keeps symbol ahead) ≤ length ahead + 1
kept-length true symbol ahead = omega arith
kept-length false symbol ahead = omega arith

puts_ligature-grows : (op : Operation) (code : ℕ) (current follower : Symbol) (rest : List Symbol)
    → Grows (follower ∷ rest) (puts_ligature op code current follower rest)
puts_ligature-grows op code current follower rest =
    let new = ligature_between op code current follower in
    let tail = kept op.keeps_next follower rest in
    let list = with_ligature op code current follower rest in
    let inner : length tail ≤ length rest + 1 = kept-length op.keeps_next follower rest in
    let outer : length list ≤ length (new ∷ tail) + 1 = kept-length op.keeps_current current (new ∷ tail) in
    let cut = length-drop op.passes list in
    record { few = omega arith; size = omega (arith, cut) }

if-grows : (b : Bool) (rest : List Symbol) (x y : Move) → Grows rest x → Grows rest y → Grows rest (if b then x else y)
if-grows true rest x y p q = p
if-grows false rest x y p q = q

move_by-grows : (kerns : List ℤ) (word : Option LigWord) (current follower : Symbol) (rest : List Symbol)
    → Grows (follower ∷ rest) (move_by kerns word current follower rest)
move_by-grows kerns None current follower rest = record { few = omega arith; size = omega arith }
move_by-grows kerns (Some word) current follower rest =
    if-grows (nat_le 128 word.op) (follower ∷ rest)
    (puts_kern (kern_of kerns word) current (follower ∷ rest))
    (puts_ligature (operation_of word.op) word.rest current follower rest)
    (record { few = omega arith; size = omega arith })
    (puts_ligature-grows (operation_of word.op) word.rest current follower rest)

pub move_at-grows : (tfm : Tfm) (current : Symbol) (rest : List Symbol) → Grows rest (move_at tfm current rest)
move_at-grows tfm current [] = record { few = omega arith; size = omega arith }
move_at-grows tfm current (follower ∷ rest) =
    move_by-grows tfm.kerns (acting_word tfm current.kind follower.kind) current follower rest
