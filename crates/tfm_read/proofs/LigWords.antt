-- A ligature word that nothing is wrong with fits.
use Rattle.std.proofs.Common.{◌≡◌, ℕ, ◌+◌, ◌-◌, ◌*◌, ◌<◌, Bool, true, false, ◌&&◌, ◌||◌, not, cond, eqb, ltb, leb, List, length, get_or, Option, Some, None, refl, inl, inr, arith}
use Rattle.std.proofs.lemmas.Bool.{cases_lt, eqb-true, lt-ltb, le-ltb, le-leb, leb-false}
use Rattle.std.proofs.lemmas.Option.{slice_get-get_or, slice_get_past}
use Rattle.tfm_read.specs.declared.character.CharInfo.{CharInfo}
use Rattle.tfm_read.specs.declared.fault.TfmFaultKind.TheVariants.{NoSuchChar, LigPast}
use Rattle.tfm_read.specs.declared.ligature.LigWord.{LigWord}
use Rattle.tfm_read.specs.Checks.{lig_fault, names_missing, leads_past}
use Rattle.tfm_read.specs.Entries.{entries}
use Rattle.tfm_read.specs.Ligatures.{right_in, right_of, left_in, left_of}
use Rattle.tfm_read.specs.Ranges.{IsPlaceIn, LigFits, LigsFit, exists_at, is_boundary}
use Rattle.tfm_read.proofs.Entries.{entries_none, slice_get-entries}

-- neither test said so
neither : (missing past : Bool) → cond missing (Some NoSuchChar) (cond past (Some LigPast) None) ≡ None → (missing ≡ false) × (past ≡ false)
neither true past e = absurd cc
neither false true e = absurd cc
neither false false e = (refl, refl)

-- a word that may act names characters that are there
named : (acts there boundary ligature rest : Bool) → (acts && (not (there || boundary) || (ligature && not rest))) ≡ false → acts ≡ true
    → ((there || boundary) ≡ true) × (ligature ≡ true → rest ≡ true)
named true true boundary true true e a = (refl, λ _. refl)
named true true boundary true false e a = absurd cc
named true true boundary false rest e a = (refl, λ l. absurd cc)
named true false true true true e a = (refl, λ _. refl)
named true false true true false e a = absurd cc
named true false true false rest e a = (refl, λ l. absurd cc)
named true false false ligature rest e a = absurd cc
named false there boundary ligature rest e a = absurd cc

jumps_within : (jump past other : Bool) → cond jump past other ≡ false → jump ≡ true → past ≡ false
jumps_within true past other e j = e
jumps_within false past other e j = absurd cc

leads_within : (jump past kern no_kern skips no_word : Bool) → cond jump past ((kern && no_kern) || (skips && no_word)) ≡ false → jump ≡ false
    → (kern ≡ true → no_kern ≡ false) × (skips ≡ true → no_word ≡ false)
leads_within true past kern no_kern skips no_word e j = absurd cc
leads_within false past true true skips no_word e j = absurd cc
leads_within false past true false true no_word e j = (λ _. refl, λ _. e)
leads_within false past true false false no_word e j = (λ _. refl, λ s. absurd cc)
leads_within false past false no_kern true no_word e j = (λ k. absurd cc, λ _. e)
leads_within false past false no_kern false no_word e j = (λ k. absurd cc, λ s. absurd cc)

pub fits : (chars : List CharInfo) (right : Option ℕ) (kerns n i : ℕ) (w : LigWord) → lig_fault chars right kerns n i w ≡ None → LigFits chars right kerns n i w
unfolding lig_fault
fits chars right kerns n i w e =
    let both = neither (names_missing chars right w) (leads_past kerns n i w) e in
    let names = named (leb w.skip 128) (exists_at chars w.next) (is_boundary right w.next) (ltb w.op 128) (exists_at chars w.rest) both.0 in
    let jumps = jumps_within (ltb 128 w.skip) (leb n (256 * w.op + w.rest)) ((leb 128 w.op && leb kerns (256 * (w.op - 128) + w.rest)) || (ltb w.skip 128 && leb n (i + w.skip + 1))) both.1 in
    let leads = leads_within (ltb 128 w.skip) (leb n (256 * w.op + w.rest)) (leb 128 w.op) (leb kerns (256 * (w.op - 128) + w.rest)) (ltb w.skip 128) (leb n (i + w.skip + 1)) both.1 in
    record {
      jump = λ lt. leb-false _ _ (jumps (lt-ltb _ _ lt));
      step = λ lt. leb-false _ _ ((leads (le-ltb _ _ (omega arith))).1 (lt-ltb _ _ lt));
      next = λ le. (names (le-leb _ _ le)).0;
      kern = λ le high. leb-false _ _ ((leads (le-ltb _ _ le)).0 (le-leb _ _ high));
      ligature = λ le low. (names (le-leb _ _ le)).1 (lt-ltb _ _ low);
    }

-- with no words there is no right boundary character
pub right_none : (f : ℕ → LigWord) (n : ℕ) → n ≡ 0 → right_of (entries f n) ≡ None
right_none f n e = rw (e, entries_none) refl

pub right_first : (f : ℕ → LigWord) (n : ℕ) → 0 < n → right_of (entries f n) ≡ right_in (f 0)
right_first f n lt = rw (slice_get-entries f n 0 lt, right_of) refl

-- ---- the left boundary's program

no_word : LigWord
no_word = record { skip = 0; next = 0; op = 0; rest = 0 }

chosen : (b : Bool) (n p : ℕ) → cond b (Some n) None ≡ Some p → (b ≡ true) × (n ≡ p)
chosen true n p e = (refl, cc)
chosen false n p e = absurd cc

left_in_fits : (chars : List CharInfo) (right : Option ℕ) (kerns n i : ℕ) (w : LigWord) → LigFits chars right kerns n i w → (p : ℕ) → left_in w ≡ Some p → p < n
left_in_fits chars right kerns n i w word_fits p e =
    let both = chosen (eqb w.skip 255) (256 * w.op + w.rest) p e in
    let last : w.skip ≡ 255 = eqb-true _ _ both.0 in
    omega (arith, word_fits.jump (omega arith), both.1)

none_some : (p : ℕ) → None ≡ Some p → ⊥
none_some p e = absurd cc

pub left_fits : (chars : List CharInfo) (right : Option ℕ) (kerns : ℕ) (ligs : List LigWord) → LigsFit chars right kerns ligs → IsPlaceIn (length ligs) (left_of ligs)
left_fits chars right kerns ligs all p e =
    elim (cases_lt 0 (length ligs)) [
      | inl some ↦
          let last : length ligs - 1 < length ligs = omega arith in
          let word = slice_get-get_or ligs (length ligs - 1) no_word last in
          left_in_fits chars right kerns (length ligs) (length ligs - 1) (get_or ligs (length ligs - 1) no_word) (all (length ligs - 1) no_word last) p (rw (word, left_of) at e)
      | inr none ↦
          let past = slice_get_past ligs (length ligs - 1) (omega arith) in
          absurd (none_some p (rw (past, left_of) at e))
    ]
