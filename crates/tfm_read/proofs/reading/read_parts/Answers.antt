use Rattle.std.proofs.Common.{◌≡◌, ◌<◌, ◌^◌, ℕ, None, length, sym, ap, subst, ◌∙◌, rules, arith, FitsSigned}
use Rattle.std.specs.Int.{w32}
use Rattle.std.proofs.lemmas.Int.{to_z-of_z}
use Rattle.std.proofs.lemmas.Result.{err_from_is_err_and}
use Rattle.tfm_read.specs.declared.character.CharInfo.{CharInfo}
use Rattle.tfm_read.specs.declared.lengths.Places.{Places}
use Rattle.tfm_read.specs.Characters.{chars_of}
use Rattle.tfm_read.specs.Checks.{characters_fault, design_fault, fix_check, param_check, words_fault}
use Rattle.tfm_read.specs.Entries.{first_of}
use Rattle.tfm_read.specs.Font.{IsRead}
use Rattle.tfm_read.specs.Lengths.{places_of}
use Rattle.tfm_read.specs.Ligatures.{left_of, lig_of}
use Rattle.tfm_read.specs.Ranges.{LigsFit}
use Rattle.tfm_read.specs.Sizes.{size_of}
use Rattle.tfm_read.specs.Words.{unsigned_number}
use Rattle.tfm_read.proofs.Answering.{answers_whole}
use Rattle.tfm_read.proofs.Entries.{length-entries}
use Rattle.tfm_read.proofs.LigWords.{left_fits}
use Rattle.tfm_read.proofs.Parts.{parts_within}
use Rattle.tfm_read.proofs.WholeFont.{lig_stage, lig_stage_same, programs_moved, kerns_moved, params_moved, kern_stage_same, param_stage_same, length-chars_of, words_none, fault_in_design, fault_in_characters, fault_in_ligs, fault_in_kerns, fault_in_params}
use Rattle.tfm_read.proofs.reading.read_parts.Goals as goal

pub word_at-requires : goal.word_at-requires
word_at-requires c =
    let within = parts_within c.args.lengths.now in
    omega (arith, within.header, c.requires.header, c.requires.within)

pub read_design-requires : goal.read_design-requires
read_design-requires c =
    let within = parts_within c.args.lengths.now in
    omega (arith, within.header, c.requires.header, c.requires.within)

pub returns-in_err-design : goal.returns-in_err-design
returns-in_err-design c =
    let p = err_from_is_err_and c.from_residual.result c.from_residual.ensures.1 in
    rw (p.1, p.2)
    (answers_whole _ (IsRead c.args.bytes.now c.args.lengths.now) c.in_err-design.field-0.0 (design_fault c.args.bytes.now) (words_fault c.args.bytes.now c.args.lengths.now)
    (λ fault here. fault_in_design c.args.bytes.now c.args.lengths.now fault here) c.in_err-design.ensures)

pub returns-in_err-chars : goal.returns-in_err-chars
returns-in_err-chars c =
    let p = err_from_is_err_and c.from_residual-in_err-chars.result c.from_residual-in_err-chars.ensures.1 in
    rw (p.1, p.2)
    (answers_whole _ (IsRead c.args.bytes.now c.args.lengths.now) c.in_err-chars.field-0.0 (characters_fault c.args.bytes.now c.args.lengths.now) (words_fault c.args.bytes.now c.args.lengths.now)
    (λ fault here. fault_in_characters c.args.bytes.now c.args.lengths.now fault c.in_ok-design.ensures.0 here) c.in_err-chars.ensures)

pub read_programs-requires-clause-within : goal.read_programs-requires-clause-within
read_programs-requires-clause-within c =
    let within = parts_within c.args.lengths.now in
    omega (arith, within.ligs, ap (λ (p : Places). p.ligs) c.places-places.ensures, c.from.ensures, c.requires.within)

pub read_programs-requires-clause-few : goal.read_programs-requires-clause-few
read_programs-requires-clause-few c =
    let within = parts_within c.args.lengths.now in
    omega (arith, within.ligs, ap (λ (p : Places). p.ligs) c.places-places.ensures, c.from.ensures, c.requires.end)

pub read_programs-requires-clause-all : goal.read_programs-requires-clause-all
read_programs-requires-clause-all c =
    ap (length {A = CharInfo}) (c.as_slice.ensures ∙ c.in_ok-chars.ensures.1.0) ∙ length-chars_of c.args.bytes.now c.args.lengths.now

pub returns-in_err-programs : goal.returns-in_err-programs
returns-in_err-programs c =
    let p = err_from_is_err_and c.from_residual-in_err-programs.result c.from_residual-in_err-programs.ensures.1 in
    rw (p.1, p.2)
    (answers_whole _ (IsRead c.args.bytes.now c.args.lengths.now) c.in_err-programs.field-0.0 (lig_stage c.args.bytes.now c.as_slice.result.now c.from-kern_count.result c.places-places.result.ligs c.from.result) (words_fault c.args.bytes.now c.args.lengths.now)
    (λ fault here. fault_in_ligs c.args.bytes.now c.args.lengths.now fault c.in_ok-design.ensures.0 c.in_ok-chars.ensures.0 (sym (lig_stage_same c.args.bytes.now _ _ _ _ _ _ _ _ (c.as_slice.ensures ∙ c.in_ok-chars.ensures.1.0) c.from-kern_count.ensures (ap (λ (p : Places). p.ligs) c.places-places.ensures) c.from.ensures) ∙ here)) c.in_err-programs.ensures)

pub read_kerns-requires-clause-within : goal.read_kerns-requires-clause-within
read_kerns-requires-clause-within c =
    let within = parts_within c.args.lengths.now in
    omega (arith, within.kerns, ap (λ (p : Places). p.kerns) c.places-places.ensures, c.from-kern_count.ensures, c.requires.within)

pub read_kerns-requires-clause-few : goal.read_kerns-requires-clause-few
read_kerns-requires-clause-few c =
    let within = parts_within c.args.lengths.now in
    omega (arith, within.kerns, ap (λ (p : Places). p.kerns) c.places-places.ensures, c.from-kern_count.ensures, c.requires.end)

pub returns-in_err-kerns : goal.returns-in_err-kerns
returns-in_err-kerns c =
    let p = err_from_is_err_and c.from_residual-in_err-kerns.result c.from_residual-in_err-kerns.ensures.1 in
    let ligs_none : lig_stage c.args.bytes.now (chars_of c.args.bytes.now c.args.lengths.now) c.args.lengths.now.kerns (places_of c.args.lengths.now).ligs c.args.lengths.now.ligs ≡ None =
    sym (lig_stage_same c.args.bytes.now _ _ _ _ _ _ _ _ (c.as_slice.ensures ∙ c.in_ok-chars.ensures.1.0) c.from-kern_count.ensures (ap (λ (p : Places). p.ligs) c.places-places.ensures) c.from.ensures) ∙ c.in_ok-programs.ensures.0 in
    rw (p.1, p.2)
    (answers_whole _ (IsRead c.args.bytes.now c.args.lengths.now) c.in_err-kerns.field-0.0 (first_of (fix_check c.args.bytes.now c.places-places.result.kerns) c.from-kern_count.result) (words_fault c.args.bytes.now c.args.lengths.now)
    (λ fault here. fault_in_kerns c.args.bytes.now c.args.lengths.now fault c.in_ok-design.ensures.0 c.in_ok-chars.ensures.0 ligs_none (sym (kern_stage_same c.args.bytes.now _ _ _ _ (ap (λ (p : Places). p.kerns) c.places-places.ensures) c.from-kern_count.ensures) ∙ here)) c.in_err-kerns.ensures)

pub read_params-requires-clause-within : goal.read_params-requires-clause-within
read_params-requires-clause-within c =
    let within = parts_within c.args.lengths.now in
    omega (arith, within.params, ap (λ (p : Places). p.params) c.places-places.ensures, c.from-2.ensures, c.requires.within)

pub read_params-requires-clause-few : goal.read_params-requires-clause-few
read_params-requires-clause-few c =
    let within = parts_within c.args.lengths.now in
    omega (arith, within.params, ap (λ (p : Places). p.params) c.places-places.ensures, c.from-2.ensures, c.requires.end)

pub returns-in_err-params : goal.returns-in_err-params
returns-in_err-params c =
    let p = err_from_is_err_and c.from_residual-in_err-params.result c.from_residual-in_err-params.ensures.1 in
    let ligs_none : lig_stage c.args.bytes.now (chars_of c.args.bytes.now c.args.lengths.now) c.args.lengths.now.kerns (places_of c.args.lengths.now).ligs c.args.lengths.now.ligs ≡ None =
    sym (lig_stage_same c.args.bytes.now _ _ _ _ _ _ _ _ (c.as_slice.ensures ∙ c.in_ok-chars.ensures.1.0) c.from-kern_count.ensures (ap (λ (p : Places). p.ligs) c.places-places.ensures) c.from.ensures) ∙ c.in_ok-programs.ensures.0 in
    let kerns = kerns_moved c.args.bytes.now c.places-places.result.kerns (places_of c.args.lengths.now).kerns c.from-kern_count.result c.args.lengths.now.kerns c.in_ok-kerns.kerns (ap (λ (p : Places). p.kerns) c.places-places.ensures) c.from-kern_count.ensures c.in_ok-kerns.ensures in
    rw (p.1, p.2)
    (answers_whole _ (IsRead c.args.bytes.now c.args.lengths.now) c.in_err-params.field-0.0 (first_of (param_check c.args.bytes.now c.places-places.result.params) c.from-2.result) (words_fault c.args.bytes.now c.args.lengths.now)
    (λ fault here. fault_in_params c.args.bytes.now c.args.lengths.now fault c.in_ok-design.ensures.0 c.in_ok-chars.ensures.0 ligs_none kerns.0 (sym (param_stage_same c.args.bytes.now _ _ _ _ (ap (λ (p : Places). p.params) c.places-places.ensures) c.from-2.ensures) ∙ here)) c.in_err-params.ensures)

pub invariant_of-result : goal.invariant_of-result
invariant_of-result c =
    let fits : FitsSigned w32 c.in_ok-design.design = search rules in
    let back = to_z-of_z w32 c.in_ok-design.design fits in
    let programs = programs_moved c.args.bytes.now c.as_slice.result.now c.in_ok-chars.chars c.from-kern_count.result c.args.lengths.now.kerns c.places-places.result.ligs (places_of c.args.lengths.now).ligs c.from.result c.args.lengths.now.ligs c.in_ok-programs.programs c.as_slice.ensures c.from-kern_count.ensures (ap (λ (p : Places). p.ligs) c.places-places.ensures) c.from.ensures c.in_ok-programs.ensures.1 in
    let ligs_none : lig_stage c.args.bytes.now (chars_of c.args.bytes.now c.args.lengths.now) c.args.lengths.now.kerns (places_of c.args.lengths.now).ligs c.args.lengths.now.ligs ≡ None =
    sym (lig_stage_same c.args.bytes.now _ _ _ _ _ _ _ _ (c.as_slice.ensures ∙ c.in_ok-chars.ensures.1.0) c.from-kern_count.ensures (ap (λ (p : Places). p.ligs) c.places-places.ensures) c.from.ensures) ∙ c.in_ok-programs.ensures.0 in
    let kerns = kerns_moved c.args.bytes.now c.places-places.result.kerns (places_of c.args.lengths.now).kerns c.from-kern_count.result c.args.lengths.now.kerns c.in_ok-kerns.kerns (ap (λ (p : Places). p.kerns) c.places-places.ensures) c.from-kern_count.ensures c.in_ok-kerns.ensures in
    let params = params_moved c.args.bytes.now c.places-places.result.params (places_of c.args.lengths.now).params c.from-2.result c.args.lengths.now.params c.in_ok-params.params (ap (λ (p : Places). p.params) c.places-places.ensures) c.from-2.ensures c.in_ok-params.ensures in
    let lig_count : length c.in_ok-programs.programs.ligs ≡ c.args.lengths.now.ligs = ap length programs.ligs ∙ length-entries (lig_of c.args.bytes.now (places_of c.args.lengths.now).ligs) c.args.lengths.now.ligs in
    let kern_count : length c.in_ok-kerns.kerns ≡ c.args.lengths.now.kerns = ap length kerns.1.0 ∙ length-entries (size_of c.args.bytes.now (places_of c.args.lengths.now).kerns) c.args.lengths.now.kerns in
    let ligs_fit : LigsFit c.in_ok-chars.chars c.in_ok-programs.programs.right (length c.in_ok-kerns.kerns) c.in_ok-programs.programs.ligs =
    subst (λ (n : ℕ). LigsFit c.in_ok-chars.chars c.in_ok-programs.programs.right n c.in_ok-programs.programs.ligs) (sym kern_count) programs.fit in
    let within = parts_within c.args.lengths.now in
    let few : length c.in_ok-kerns.kerns < 2 ^ 15 = omega (arith, kern_count, within.kerns, c.requires.end) in
    record {
      every_code = ap length c.in_ok-chars.ensures.1.0 ∙ length-chars_of c.args.bytes.now c.args.lengths.now;
      design_fits = rw back c.in_ok-design.ensures.1.fits;
      chars_fit = λ k d lt. rw lig_count (c.in_ok-chars.ensures.1.1 k d lt);
      ligs_fit = ligs_fit;
      kerns_fit = kerns.1.1;
      few_kerns = few;
      params_fit = params.1.1;
      left_fits = rw (c.left_of-left.ensures, c.as_slice-2.ensures) (left_fits c.in_ok-chars.chars c.in_ok-programs.programs.right (length c.in_ok-kerns.kerns) c.in_ok-programs.programs.ligs ligs_fit);
    }

pub returns : goal.returns
returns c =
    let fits : FitsSigned w32 c.in_ok-design.design = search rules in
    let back = to_z-of_z w32 c.in_ok-design.design fits in
    let programs = programs_moved c.args.bytes.now c.as_slice.result.now c.in_ok-chars.chars c.from-kern_count.result c.args.lengths.now.kerns c.places-places.result.ligs (places_of c.args.lengths.now).ligs c.from.result c.args.lengths.now.ligs c.in_ok-programs.programs c.as_slice.ensures c.from-kern_count.ensures (ap (λ (p : Places). p.ligs) c.places-places.ensures) c.from.ensures c.in_ok-programs.ensures.1 in
    let ligs_none : lig_stage c.args.bytes.now (chars_of c.args.bytes.now c.args.lengths.now) c.args.lengths.now.kerns (places_of c.args.lengths.now).ligs c.args.lengths.now.ligs ≡ None =
    sym (lig_stage_same c.args.bytes.now _ _ _ _ _ _ _ _ (c.as_slice.ensures ∙ c.in_ok-chars.ensures.1.0) c.from-kern_count.ensures (ap (λ (p : Places). p.ligs) c.places-places.ensures) c.from.ensures) ∙ c.in_ok-programs.ensures.0 in
    let kerns = kerns_moved c.args.bytes.now c.places-places.result.kerns (places_of c.args.lengths.now).kerns c.from-kern_count.result c.args.lengths.now.kerns c.in_ok-kerns.kerns (ap (λ (p : Places). p.kerns) c.places-places.ensures) c.from-kern_count.ensures c.in_ok-kerns.ensures in
    let params = params_moved c.args.bytes.now c.places-places.result.params (places_of c.args.lengths.now).params c.from-2.result c.args.lengths.now.params c.in_ok-params.params (ap (λ (p : Places). p.params) c.places-places.ensures) c.from-2.ensures c.in_ok-params.ensures in (
      words_none c.args.bytes.now c.args.lengths.now c.in_ok-design.ensures.0 c.in_ok-chars.ensures.0 ligs_none kerns.0 params.0,
      record {
        checksum = c.unsigned_number-checksum.ensures ∙ ap unsigned_number c.word_at.ensures;
        design = back ∙ c.in_ok-design.ensures.1.told;
        chars = c.in_ok-chars.ensures.1.0;
        ligs = programs.ligs;
        kerns = kerns.1.0;
        params = params.1.0;
        right = programs.right;
        left = c.left_of-left.ensures ∙ ap left_of (c.as_slice-2.ensures ∙ programs.ligs);
      },
    )
