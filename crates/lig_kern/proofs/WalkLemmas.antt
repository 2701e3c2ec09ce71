-- What a walk over the words of a program comes to.
use Rattle.std.proofs.Common.{◌≡◌, ℕ, zero, suc, ◌+◌, ◌<◌, ◌≤◌, List, [], ◌∷◌, length, get_or, refl, arith, true, false}
use Rattle.std.specs.Prelude.{Some, None, nat_le}
use Rattle.std.proofs.lemmas.Bool.{le-leb}
use Rattle.std.proofs.lemmas.Bool.Decides.{nat_tests}
use Rattle.tfm_read.specs.declared.ligature.LigWord.{LigWord}
use Rattle.lig_kern.specs.Programs.{walk, acts_before}

-- a walk past the last word finds nothing
pub walk-past : (code n : ℕ) (words : List LigWord) → length words ≤ n → walk code n words ≡ None
unfolding walk
walk-past code n [] past = refl
walk-past code zero (word ∷ words) past = absurd (omega arith)
walk-past code (suc n) (word ∷ words) past = walk-past code n words (omega arith)

-- a walk that has come to a word that acts finds it
pub walk-finds : (code n : ℕ) (words : List LigWord) (d : LigWord) → n < length words
    → acts_before (get_or words n d) code ≡ true → walk code n words ≡ Some (get_or words n d)
unfolding walk
walk-finds code n [] d below acts = absurd (omega arith)
walk-finds code zero (word ∷ words) d below acts = rw acts
walk-finds code (suc n) (word ∷ words) d below acts = walk-finds code n words d (omega arith) acts

-- one that has come to another word whose skip is 128 or more ends
pub walk-ends : (code n : ℕ) (words : List LigWord) (d : LigWord) → n < length words
    → acts_before (get_or words n d) code ≡ false → 128 ≤ (get_or words n d).skip
    → walk code n words ≡ None
unfolding walk
walk-ends code n [] d below acts ends = absurd (omega arith)
walk-ends code zero (word ∷ words) d below acts ends =
    let far : nat_le 128 word.skip ≡ true = le-leb 128 word.skip ends in rw (acts, far)
walk-ends code (suc n) (word ∷ words) d below acts ends = walk-ends code n words d (omega arith) acts ends

-- one that has come to any other word passes over as many words after it as the skip tells
pub walk-skips : (code n m : ℕ) (words : List LigWord) (d : LigWord) → n < length words
    → acts_before (get_or words n d) code ≡ false → (get_or words n d).skip < 128
    → m ≡ n + ((get_or words n d).skip + 1) → walk code m words ≡ walk code n words
unfolding walk
walk-skips code n m [] d below acts goes to = absurd (omega arith)
walk-skips code zero m (word ∷ words) d below acts goes to =
    let near : nat_le 128 word.skip ≡ false = grind (arith, nat_tests) in
    let there : m ≡ suc word.skip = omega arith in rw (there, acts, near) refl
walk-skips code (suc n) zero (word ∷ words) d below acts goes to = absurd (omega arith)
walk-skips code (suc n) (suc m) (word ∷ words) d below acts goes to =
    walk-skips code n m words d (omega arith) acts goes (omega arith)
