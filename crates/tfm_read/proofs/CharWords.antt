-- The char_info words that were read, each at its code.
use Rattle.std.proofs.Common.{◌≡◌, ℕ, ◌+◌, ◌-◌, ◌<◌, ◌≤◌, Bool, true, false, ◌&&◌, ltb, leb, List, None, length, get_or, set, All, refl, sym, ap, subst, ◌∙◌, inl, inr, arith}
use Rattle.std.specs.Prelude.{IsTrue}
use Rattle.std.proofs.lemmas.Bool.{cases_lt, lt-ltb, le-leb, lt-leb}
use Rattle.std.proofs.lemmas.List.{length-set, get_or-set_same, get_or-set_other}
use Rattle.tfm_read.specs.declared.indices.Indices.{Indices}
use Rattle.tfm_read.specs.declared.lengths.Lengths.{Lengths}
use Rattle.tfm_read.specs.Characters.{AreIndicesAt, AreIndices, are_within, indices_in, indices_of, no_indices}
use Rattle.tfm_read.specs.Checks.{char_check}
use Rattle.tfm_read.specs.Entries.{first_of}
use Rattle.tfm_read.specs.Layout.{IsLaidOut}
use Rattle.tfm_read.specs.Lengths.{code_count, places_of}
use Rattle.tfm_read.specs.Words.{word_of}
use Rattle.tfm_read.proofs.Entries.{first_of_none, first_of_one}

-- the first i char_info words
pub record IndicesSoFar (bytes : List ℕ) (l : Lengths) (place : ℕ) (indices : List Indices) (i : ℕ) : Type 0 where
  pub sound : first_of (char_check bytes l place) i ≡ None
  pub len : length indices ≡ 256
  pub told : (k : ℕ) → k < i → AreIndicesAt bytes l place k (get_or indices (l.first_code + k) no_indices)
  pub below : (code : ℕ) → code < l.first_code → code < 256 → get_or indices code no_indices ≡ no_indices
  pub above : (code : ℕ) → l.first_code + i ≤ code → code < 256 → get_or indices code no_indices ≡ no_indices

pub indices_none : (bytes : List ℕ) (l : Lengths) (place : ℕ) (indices : List Indices) → length indices ≡ 256 → All (λ i. i ≡ no_indices) indices → IndicesSoFar bytes l place indices 0
indices_none bytes l place indices len all = record {
  sound = first_of_none (char_check bytes l place);
  len = len;
  told = λ k lt. absurd (omega arith);
  below = λ code _ lt. all code no_indices (omega arith);
  above = λ code _ lt. all code no_indices (omega arith);
}

pub indices_more : (bytes : List ℕ) (l : Lengths) (place i at : ℕ) (indices : List Indices) (found : Indices) → at ≡ l.first_code → l.first_code + i < 256 → IndicesSoFar bytes l place indices i
    → char_check bytes l place i ≡ None → AreIndicesAt bytes l place i found → IndicesSoFar bytes l place (set indices (at + i) found) (i + 1)
indices_more bytes l place i at indices found at_is lt before passes told =
    let within : at + i < length indices = omega (arith, before.len) in
    record {
      sound = first_of_one (char_check bytes l place) i before.sound passes;
      len = length-set indices (at + i) found ∙ before.len;
      told = λ k below.
          elim (cases_lt k i) [
            | inl earlier ↦ rw (get_or-set_other indices (at + i) (l.first_code + k) found no_indices (omega arith)) (before.told k earlier)
            | inr here ↦
                let e : i ≡ k = omega arith in
                let place_is : l.first_code + k ≡ at + i = omega arith in
                subst (λ (j : ℕ). AreIndicesAt bytes l place j (get_or (set indices (at + i) found) (l.first_code + k) no_indices)) e
                (rw (place_is, get_or-set_same indices (at + i) found no_indices within) told)
          ];
      below = λ code low lt'. rw (get_or-set_other indices (at + i) code found no_indices (omega arith)) (before.below code low lt');
      above = λ code high lt'. rw (get_or-set_other indices (at + i) code found no_indices (omega arith)) (before.above code (omega arith) lt');
    }

no_within : (bytes : List ℕ) (l : Lengths) → IsLaidOut bytes l → are_within l no_indices ≡ true
no_within bytes l laid_out =
    let w : ltb 0 l.widths ≡ true = lt-ltb _ _ laid_out.widths in
    let h : ltb 0 l.heights ≡ true = lt-ltb _ _ laid_out.heights in
    let d : ltb 0 l.depths ≡ true = lt-ltb _ _ laid_out.depths in
    let i : ltb 0 l.italics ≡ true = lt-ltb _ _ laid_out.italics in
    rw (w, h, d, i) refl

outside_is : (bytes : List ℕ) (l : Lengths) (code : ℕ) → (leb l.first_code code && leb code l.last_code) ≡ false → indices_of bytes l code ≡ no_indices
unfolding indices_of
outside_is bytes l code e = rw e refl

inside_is : (bytes : List ℕ) (l : Lengths) (code : ℕ) → l.first_code ≤ code → code ≤ l.last_code
    → indices_of bytes l code ≡ indices_in (word_of bytes ((places_of l).chars + (code - l.first_code)))
unfolding indices_of
inside_is bytes l code low high =
    let a : leb l.first_code code ≡ true = le-leb _ _ low in
    let b : leb code l.last_code ≡ true = le-leb _ _ high in
    rw (a, b) refl

outside : (bytes : List ℕ) (l : Lengths) (indices : List Indices) (code : ℕ) → IsLaidOut bytes l → (leb l.first_code code && leb code l.last_code) ≡ false
    → get_or indices code no_indices ≡ no_indices → (get_or indices code no_indices ≡ indices_of bytes l code) × IsTrue (are_within l (indices_of bytes l code))
outside bytes l indices code laid_out test is =
    let none = outside_is bytes l code test in
    (is ∙ sym none, rw none (no_within bytes l laid_out))

past_test : (a b : ℕ) (first : Bool) → b < a → (first && leb a b) ≡ false
past_test a b true lt = lt-leb _ _ lt
past_test a b false lt = refl

pub indices_all : (bytes : List ℕ) (l : Lengths) (place i : ℕ) (indices : List Indices) → IsLaidOut bytes l → place ≡ (places_of l).chars → i ≡ code_count l → IndicesSoFar bytes l place indices i
    → (first_of (char_check bytes l place) (code_count l) ≡ None) × AreIndices bytes l indices
indices_all bytes l place i indices laid_out place_is i_is so_far = (
  subst (λ (n : ℕ). first_of (char_check bytes l place) n ≡ None) i_is so_far.sound,
  λ code lt.
      elim (cases_lt code l.first_code) [
        | inl low ↦ outside bytes l indices code laid_out (let t : leb l.first_code code ≡ false = lt-leb _ _ low in rw t refl) (so_far.below code low lt)
        | inr high ↦
            elim (cases_lt l.last_code code) [
              | inl past ↦ outside bytes l indices code laid_out (past_test code l.last_code (leb l.first_code code) past) (so_far.above code (omega (arith, laid_out.codes)) lt)
              | inr here ↦
                  let k : ℕ = code - l.first_code in
                  let code_is : l.first_code + (code - l.first_code) ≡ code = omega arith in
                  let told : AreIndicesAt bytes l place (code - l.first_code) (get_or indices code no_indices) =
                  subst (λ (j : ℕ). AreIndicesAt bytes l place (code - l.first_code) (get_or indices j no_indices)) code_is (so_far.told (code - l.first_code) (omega (arith, laid_out.codes))) in
                  let is : get_or indices code no_indices ≡ indices_of bytes l code =
                  told.0 ∙ ap (λ (p : ℕ). indices_in (word_of bytes (p + (code - l.first_code)))) place_is ∙ sym (inside_is bytes l code high here) in
                  (is, subst (λ (x : Indices). IsTrue (are_within l x)) is told.1)
            ]
      ],
)
