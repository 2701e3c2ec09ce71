-- What the loops over words have read so far.
use Rattle.std.proofs.Common.{◌≡◌, ℕ, ◌+◌, ◌/◌, ◌<◌, ◌≤◌, ltb, true, false, List, [], ◌∷◌, ◌++◌, ℤ, pos, Option, Some, None, length, get_or, set, refl, sym, ap, subst, ◌∙◌, inl, inr, arith, All, length-append}
use Rattle.std.proofs.lemmas.Bool.{cases_lt, lt-ltb, le-ltb}
use Rattle.std.proofs.lemmas.Grind.{common_steps}
use Rattle.std.proofs.lemmas.List.{length-set, get_or-set_same, get_or-set_other, get_or_default, get_or-replicate, get_or_append_left, get_or_push}
use Rattle.std.proofs.lemmas.List.Elements.{All-push}
use Rattle.tfm_read.specs.declared.fault.TfmFaultKind.TheVariants.{BadRange}
use Rattle.tfm_read.specs.Checks.{halfword_check, fix_check, table_check, param_check, lig_check}
use Rattle.tfm_read.specs.Entries.{first_of, entries}
use Rattle.tfm_read.specs.declared.character.CharInfo.{CharInfo}
use Rattle.tfm_read.specs.declared.ligature.LigWord.{LigWord}
use Rattle.tfm_read.specs.Ligatures.{lig_of, right_of, IsLigAt, ArePrograms}
use Rattle.tfm_read.specs.Layout.{AreHalfwords}
use Rattle.micro_num.specs.Scaling.{IsFixWord}
use Rattle.tfm_read.specs.Ranges.{LigFits}
use Rattle.tfm_read.specs.Sizes.{size_of, param_of, IsSize, IsTable, IsParam, AreParamsOf}
use Rattle.tfm_read.specs.Words.{halfword_at}
use Rattle.tfm_read.proofs.Entries.{first_of_none, first_of_one, entries_all, entries_none, entries_push, length-entries}
use Rattle.tfm_read.proofs.FixWords.{zero_fits}

-- the first n halfwords, which pass their checks
pub record HalfwordsSoFar (bytes halfwords : List ℕ) (n : ℕ) : Type 0 where
  pub sound : first_of (halfword_check bytes) n ≡ None
  pub within : n ≤ 12
  pub len : length halfwords ≡ 12
  pub told : (k d : ℕ) → k < n → get_or halfwords k d ≡ halfword_at bytes k
  pub small : (k d : ℕ) → k < n → get_or halfwords k d < 32768

pub wide_halfword : (bytes : List ℕ) (n : ℕ) → 32768 ≤ halfword_at bytes n → halfword_check bytes n ≡ Some (record { kind = BadRange; word = n / 2 })
wide_halfword bytes n wide = let e : ltb (halfword_at bytes n) 32768 ≡ false = le-ltb _ _ wide in rw e refl

pub halfwords_none : (bytes halfwords : List ℕ) → length halfwords ≡ 12 → HalfwordsSoFar bytes halfwords 0
halfwords_none bytes halfwords len = record {
  sound = first_of_none (halfword_check bytes);
  within = omega arith;
  len = len;
  told = λ k d lt. absurd (omega arith);
  small = λ k d lt. absurd (omega arith);
}

pub halfwords_more : (bytes halfwords : List ℕ) (n halfword : ℕ) → n < 12 → halfword ≡ halfword_at bytes n → halfword < 32768
    → HalfwordsSoFar bytes halfwords n → HalfwordsSoFar bytes (set halfwords n halfword) (n + 1)
halfwords_more bytes halfwords n halfword lt told small before =
    let passes : ltb (halfword_at bytes n) 32768 ≡ true = lt-ltb _ _ (omega arith) in
    record {
      sound = first_of_one (halfword_check bytes) n before.sound (rw passes refl);
      within = omega arith;
      len = grind (arith, common_steps, before.len);
      told = λ k d below. grind (arith, common_steps, before.told k d, before.len, told);
      small = λ k d below. grind (arith, common_steps, before.small k d, before.len, small);
    }

pub halfwords_all : (bytes halfwords : List ℕ) (n : ℕ) → 12 ≤ n → HalfwordsSoFar bytes halfwords n
    → (first_of (halfword_check bytes) 12 ≡ None) × AreHalfwords bytes halfwords
halfwords_all bytes halfwords n done so_far =
    let e : n ≡ 12 = omega (arith, so_far.within) in (
      ap (first_of (halfword_check bytes)) (sym e) ∙ so_far.sound,
      record {
        told = entries_all (halfword_at bytes) 12 halfwords so_far.len (λ k d lt. so_far.told k d (omega arith));
        small = λ k d lt. so_far.small k d (omega (arith, so_far.len));
      },
    )

-- the first n words of a table of sizes, as far as it goes
pub record TableSoFar (bytes : List ℕ) (place : ℕ) (table : List ℤ) (n : ℕ) : Type 0 where
  pub sound : first_of (table_check bytes place) n ≡ None
  pub told : IsTable bytes place n table

-- the first n kerns
pub record KernsSoFar (bytes : List ℕ) (place : ℕ) (kerns : List ℤ) (n : ℕ) : Type 0 where
  pub sound : first_of (fix_check bytes place) n ≡ None
  pub told : kerns ≡ entries (size_of bytes place) n
  pub fit : All IsFixWord kerns

-- the first n parameters, of which seven are kept; the others are 0
pub record ParamsSoFar (bytes : List ℕ) (place : ℕ) (params : List ℤ) (n : ℕ) : Type 0 where
  pub sound : first_of (param_check bytes place) n ≡ None
  pub len : length params ≡ 7
  pub told : (k : ℕ) → k < n → k < 7 → IsParam bytes place k (get_or params k (pos 0))
  pub rest : (k : ℕ) → n ≤ k → k < 7 → get_or params k (pos 0) ≡ pos 0

-- the first i of n ligature words
pub record LigsSoFar (bytes : List ℕ) (chars : List CharInfo) (right : Option ℕ) (kerns n place : ℕ) (ligs : List LigWord) (i : ℕ) : Type 0 where
  pub sound : first_of (lig_check bytes chars right kerns n place) i ≡ None
  pub told : ligs ≡ entries (lig_of bytes place) i
  pub fit : (k : ℕ) (d : LigWord) → k < length ligs → LigFits chars right kerns n k (get_or ligs k d)

-- ---- sizes

pub table_none : (bytes : List ℕ) (place : ℕ) (table : List ℤ) → TableSoFar bytes place table 0
table_none bytes place table = record { sound = first_of_none (table_check bytes place); told = λ k lt. absurd (omega arith) }

pub table_in : (bytes : List ℕ) (place i : ℕ) (table : List ℤ) (size : ℤ) → i < length table → TableSoFar bytes place table i → table_check bytes place i ≡ None → IsSize bytes place i size
    → TableSoFar bytes place (set table i size) (i + 1)
table_in bytes place i table size lt before passes told = record {
  sound = first_of_one (table_check bytes place) i before.sound passes;
  told = λ k below within.
      elim (cases_lt k i) [
        | inl earlier ↦ rw (get_or-set_other table i k size (pos 0) (omega arith)) (before.told k earlier (omega (arith, length-set table i size)))
        | inr here ↦
            let e : i ≡ k = omega arith in
            subst (λ (j : ℕ). IsSize bytes place j (get_or (set table i size) j (pos 0))) e (rw (get_or-set_same table i size (pos 0) lt) told)
      ];
}

pub table_past : (bytes : List ℕ) (place i : ℕ) (table : List ℤ) → length table ≤ i → TableSoFar bytes place table i → table_check bytes place i ≡ None → TableSoFar bytes place table (i + 1)
table_past bytes place i table le before passes = record {
  sound = first_of_one (table_check bytes place) i before.sound passes;
  told = λ k below within. before.told k (omega arith) within;
}

pub kerns_none : (bytes : List ℕ) (place : ℕ) → KernsSoFar bytes place [] 0
kerns_none bytes place = record {
  sound = first_of_none (fix_check bytes place);
  told = sym (entries_none (size_of bytes place));
  fit = λ k d lt. absurd (omega arith);
}

pub kerns_more : (bytes : List ℕ) (place i : ℕ) (kerns : List ℤ) (size : ℤ) → KernsSoFar bytes place kerns i → fix_check bytes place i ≡ None → IsSize bytes place i size
    → KernsSoFar bytes place (kerns ++ size ∷ []) (i + 1)
kerns_more bytes place i kerns size before passes told = record {
  sound = first_of_one (fix_check bytes place) i before.sound passes;
  told = entries_push (size_of bytes place) i kerns size before.told told.0;
  fit = All-push IsFixWord kerns size before.fit told.1;
}

pub params_none : (bytes : List ℕ) (place : ℕ) (params : List ℤ) → length params ≡ 7 → ((k : ℕ) → k < 7 → get_or params k (pos 0) ≡ pos 0) → ParamsSoFar bytes place params 0
params_none bytes place params len zeros = record {
  sound = first_of_none (param_check bytes place);
  len = len;
  told = λ k lt _. absurd (omega arith);
  rest = λ k _ lt. zeros k lt;
}

pub params_in : (bytes : List ℕ) (place i : ℕ) (params : List ℤ) (size : ℤ) → i < 7 → ParamsSoFar bytes place params i → param_check bytes place i ≡ None → IsParam bytes place i size
    → ParamsSoFar bytes place (set params i size) (i + 1)
params_in bytes place i params size lt before passes told =
    let within : i < length params = omega (arith, before.len) in
    record {
      sound = first_of_one (param_check bytes place) i before.sound passes;
      len = length-set params i size ∙ before.len;
      told = λ k below seven.
          elim (cases_lt k i) [
            | inl earlier ↦ rw (get_or-set_other params i k size (pos 0) (omega arith)) (before.told k earlier seven)
            | inr here ↦
                let e : i ≡ k = omega arith in
                subst (λ (j : ℕ). IsParam bytes place j (get_or (set params i size) j (pos 0))) e (rw (get_or-set_same params i size (pos 0) within) told)
          ];
      rest = λ k above seven. rw (get_or-set_other params i k size (pos 0) (omega arith)) (before.rest k (omega arith) seven);
    }

pub params_past : (bytes : List ℕ) (place i : ℕ) (params : List ℤ) → 7 ≤ i → ParamsSoFar bytes place params i → param_check bytes place i ≡ None → ParamsSoFar bytes place params (i + 1)
params_past bytes place i params le before passes = record {
  sound = first_of_one (param_check bytes place) i before.sound passes;
  len = before.len;
  told = λ k below seven. before.told k (omega arith) seven;
  rest = λ k above seven. absurd (omega arith);
}

param_is : (bytes : List ℕ) (place n : ℕ) (params : List ℤ) → ParamsSoFar bytes place params n → (k : ℕ) (d : ℤ) → k < 7 → get_or params k d ≡ param_of bytes place n k
param_is bytes place n params so_far k d seven =
    let default : get_or params k d ≡ get_or params k (pos 0) = get_or_default params k d (pos 0) (omega (arith, so_far.len)) in
    elim (cases_lt k n) [
      | inl there ↦ let test : ltb k n ≡ true = lt-ltb _ _ there in rw test (default ∙ (so_far.told k there seven).0)
      | inr past ↦ let test : ltb k n ≡ false = le-ltb _ _ past in rw test (default ∙ so_far.rest k past seven)
    ]

pub params_all : (bytes : List ℕ) (place n i : ℕ) (params : List ℤ) → n ≤ i → i ≤ n → ParamsSoFar bytes place params i
    → (first_of (param_check bytes place) n ≡ None) × AreParamsOf bytes place n params
params_all bytes place n i params le ge so_far_i =
    let e : i ≡ n = omega arith in
    let so_far : ParamsSoFar bytes place params n = subst (λ (k : ℕ). ParamsSoFar bytes place params k) e so_far_i in (
      so_far.sound,
      (
        entries_all (param_of bytes place n) 7 params so_far.len (λ k d lt. param_is bytes place n params so_far k d lt),
        λ k after seven.
            elim (cases_lt k n) [
              | inl there ↦ (so_far.told k there seven).1 after
              | inr past ↦ rw (so_far.rest k past seven) zero_fits
            ],
      ),
    )

-- seven zeros, at each place
pub seven_zeros : (k : ℕ) → k < 7 → get_or (pos 0 ∷ pos 0 ∷ pos 0 ∷ pos 0 ∷ pos 0 ∷ pos 0 ∷ pos 0 ∷ []) k (pos 0) ≡ pos 0
seven_zeros k lt = get_or-replicate 7 k (pos 0) (pos 0) lt

-- ---- ligature words

pub ligs_none : (bytes : List ℕ) (chars : List CharInfo) (right : Option ℕ) (kerns n place : ℕ) → LigsSoFar bytes chars right kerns n place [] 0
ligs_none bytes chars right kerns n place = record {
  sound = first_of_none (lig_check bytes chars right kerns n place);
  told = sym (entries_none (lig_of bytes place));
  fit = λ k d lt. absurd (omega arith);
}

pub ligs_more : (bytes : List ℕ) (chars : List CharInfo) (right : Option ℕ) (kerns n place i : ℕ) (ligs : List LigWord) (w : LigWord) → LigsSoFar bytes chars right kerns n place ligs i
    → lig_check bytes chars right kerns n place i ≡ None → IsLigAt bytes chars right kerns n place i w → LigsSoFar bytes chars right kerns n place (ligs ++ w ∷ []) (i + 1)
ligs_more bytes chars right kerns n place i ligs w before passes told =
    let len : length ligs ≡ i = ap length before.told ∙ length-entries (lig_of bytes place) i in
    record {
      sound = first_of_one (lig_check bytes chars right kerns n place) i before.sound passes;
      told = entries_push (lig_of bytes place) i ligs w before.told told.0;
      fit = λ k d lt.
          elim (cases_lt k i) [
            | inl earlier ↦ rw (get_or_append_left ligs (w ∷ []) d k (omega arith)) (before.fit k d (omega arith))
            | inr here ↦
                let e : i ≡ k = omega (arith, length-append ligs (w ∷ [])) in
                subst (λ (j : ℕ). LigFits chars right kerns n j (get_or (ligs ++ w ∷ []) j d)) e (rw (get_or_push ligs w d i len) told.1)
          ];
    }

pub ligs_all : (bytes : List ℕ) (chars : List CharInfo) (right : Option ℕ) (kerns n place i : ℕ) (ligs : List LigWord) → n ≤ i → i ≤ n → right ≡ right_of (entries (lig_of bytes place) n)
    → LigsSoFar bytes chars right kerns n place ligs i
    → (first_of (lig_check bytes chars (right_of (entries (lig_of bytes place) n)) kerns n place) n ≡ None) × ArePrograms bytes place n chars kerns (record { ligs = ligs; right = right })
ligs_all bytes chars right kerns n place i ligs le ge right_is so_far_i =
    let e : i ≡ n = omega arith in
    let so_far : LigsSoFar bytes chars right kerns n place ligs n = subst (λ (k : ℕ). LigsSoFar bytes chars right kerns n place ligs k) e so_far_i in
    let len : length ligs ≡ n = ap length so_far.told ∙ length-entries (lig_of bytes place) n in (
      subst (λ (r : Option ℕ). first_of (lig_check bytes chars r kerns n place) n ≡ None) right_is so_far.sound,
      record {
        ligs = so_far.told;
        right = right_is;
        fit = λ k d lt. subst (λ (m : ℕ). LigFits chars right kerns m k (get_or ligs k d)) (sym len) (so_far.fit k d lt);
      },
    )
