-- Bytes that are put one after another.
use Rattle.std.proofs.Common.{◌≡◌, ℕ, ◌+◌, refl, ap, sym, ◌∙◌, arith, Bool, true, false, cond, List, [], ◌++◌, append_assoc, length, length-append}
use Rattle.std.proofs.lemmas.List.{append-nil}
use Rattle.std.specs.Prelude.{Result, Ok, Err, OnOk}
use Rattle.micro_num.specs.declared.memory.NoMemory.{NoMemory}
use Rattle.dvi_write.specs.Output.{Output, grown}

both_kept : (b : Bool) (bytes xs ys : List ℕ)
    → cond b (cond b (bytes ++ xs) bytes ++ ys) (cond b (bytes ++ xs) bytes) ≡ cond b (bytes ++ (xs ++ ys)) bytes
both_kept true bytes xs ys = append_assoc bytes xs ys
both_kept false bytes xs ys = refl

pub grown_twice : (out : Output) (xs ys : List ℕ) → grown (grown out xs) ys ≡ grown out (xs ++ ys)
unfolding grown
grown_twice out xs ys = λ i. record {
  kept = out.kept;
  length = count i;
  bytes = both_kept out.kept out.bytes xs ys i;
}
  where
    count : out.length + length xs + length ys ≡ out.length + length (xs ++ ys)
    count = let both = length-append xs ys in omega (arith, both)

nothing_kept : (b : Bool) (bytes : List ℕ) → cond b (bytes ++ []) bytes ≡ bytes
nothing_kept true bytes = append-nil bytes
nothing_kept false bytes = refl

pub grown_nothing : (out : Output) → grown out [] ≡ out
unfolding grown
grown_nothing out = λ i. record { kept = out.kept; length = count i; bytes = nothing_kept out.kept out.bytes i }
  where
    count : out.length + 0 ≡ out.length
    count = omega arith

-- after some bytes, more of them, where they are put
pub then_put : {A : Type 0} (result : Result A NoMemory) (out mid last : Output) (xs ys all : List ℕ) → mid ≡ grown out xs
    → OnOk result (last ≡ grown mid ys) → xs ++ ys ≡ all → OnOk result (last ≡ grown out all)
then_put (Ok done) out mid last xs ys all first second same =
    second ∙ ap (λ o. grown o ys) first ∙ grown_twice out xs ys ∙ ap (grown out) same
then_put (Err refused) out mid last xs ys all first second same = tt

pub and_put : (out mid last : Output) (xs ys : List ℕ) → mid ≡ grown out xs → last ≡ grown mid ys → last ≡ grown out (xs ++ ys)
and_put out mid last xs ys first second = second ∙ ap (λ o. grown o ys) first ∙ grown_twice out xs ys

pub regroup : {A : Type 0} (a b c d e f g : List A) → a ++ b ++ c ++ d ++ e ++ (f ++ g) ≡ (a ++ b) ++ (c ++ d ++ e ++ f ++ g)
regroup a b c d e f g = simp append_assoc refl

pub on_ok_same : {A : Type 0} (result : Result A NoMemory) (out last : Output) (xs all : List ℕ) → OnOk result (last ≡ grown out xs) → xs ≡ all
    → OnOk result (last ≡ grown out all)
on_ok_same (Ok done) out last xs all put same = put ∙ ap (grown out) same
on_ok_same (Err refused) out last xs all put same = tt

-- what is put where it is put is the whole where that is
pub on_ok_whole : {A : Type 0} (result : Result A NoMemory) (last mid whole : Output) → OnOk result (last ≡ mid) → mid ≡ whole → OnOk result (last ≡ whole)
on_ok_whole (Ok done) last mid whole put same = put ∙ same
on_ok_whole (Err refused) last mid whole put same = tt

-- a glyph behind what is gathered: room is made, its move is gathered, its font is put, and its code is gathered
pub gathered_glyph : (out roomy last : Output) (first left moved kept whole move font code : List ℕ) → grown roomy left ≡ grown out first
    → moved ≡ left ++ move → grown last kept ≡ grown (grown roomy moved) font → whole ≡ kept ++ code
    → grown last whole ≡ grown (grown out first) (move ++ font ++ code)
gathered_glyph out roomy last first left moved kept whole move font code made at_place selected set =
    ap (grown last) set ∙ sym (grown_twice last kept code)
    ∙ ap (λ o. grown o code) (selected ∙ ap (λ o. grown o font) (ap (grown roomy) at_place ∙ sym (grown_twice roomy left move) ∙ ap (λ o. grown o move) made))
    ∙ ap (λ o. grown o code) (grown_twice (grown out first) move font)
    ∙ grown_twice (grown out first) (move ++ font) code
