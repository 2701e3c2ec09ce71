-- Runs in a small font, by computing: ffi is one ligature, a kern stands between o and v, one before q
-- at the left boundary, and one after r at the right boundary.
use Rattle.std.specs.Prelude.{◌≡◌, refl, [], ◌∷◌, true, false, None, Ok, Err, negsuc}
use Rattle.tfm_read.specs.Entries.{entries}
use Rattle.tfm_read.proofs.SampleFonts.{lig10, tiny10, half_char}
use Rattle.lig_kern.specs.Outcome.{outcome, rewritten, enough, missing_from}
use Rattle.lig_kern.specs.Plain.{acts_at, is_quiet}
use Rattle.lig_kern.specs.Programs.{program_of, walk}
use Rattle.lig_kern.specs.Rewriting.{operation_of}
use Rattle.lig_kern.specs.Running.{start_of}
use Rattle.lig_kern.specs.declared.fault.LigFault.TheVariants.{Missing}
use Rattle.lig_kern.specs.declared.glyph.Glyph.TheVariants.{Char, Lig, Kern}

pub ffi_is_one_ligature : outcome lig10 (102 ∷ 102 ∷ 105 ∷ []) true true ≡ Ok (Lig 14 0 3 ∷ [])
unfolding outcome rewritten enough missing_from program_of walk operation_of lig10 half_char entries
ffi_is_one_ligature = refl

pub a_kern_between_o_and_v : outcome lig10 (111 ∷ 118 ∷ []) true true ≡ Ok (Char 111 0 ∷ Kern (negsuc 65535) ∷ Char 118 1 ∷ [])
unfolding outcome rewritten enough missing_from program_of walk operation_of lig10 half_char entries
a_kern_between_o_and_v = refl

pub a_kern_before_q : outcome lig10 (113 ∷ []) true true ≡ Ok (Kern (negsuc 65535) ∷ Char 113 0 ∷ [])
unfolding outcome rewritten enough missing_from program_of walk operation_of lig10 half_char entries
a_kern_before_q = refl

pub a_kern_after_r : outcome lig10 (114 ∷ []) true true ≡ Ok (Char 114 0 ∷ Kern (negsuc 65535) ∷ [])
unfolding outcome rewritten enough missing_from program_of walk operation_of lig10 half_char entries
a_kern_after_r = refl

pub r_without_boundaries : outcome lig10 (114 ∷ []) false false ≡ Ok (Char 114 0 ∷ [])
unfolding outcome rewritten enough missing_from program_of walk operation_of lig10 half_char entries
r_without_boundaries = refl

pub the_second_code_is_missing : outcome tiny10 (97 ∷ 200 ∷ []) true true ≡ Err (Missing 1)
unfolding outcome rewritten enough missing_from program_of walk operation_of tiny10 half_char entries
the_second_code_is_missing = refl

pub a_word_acts_between_o_and_v : acts_at lig10 111 118 ≡ true
unfolding program_of walk lig10 half_char entries
a_word_acts_between_o_and_v = refl

pub no_word_acts_between_v_and_o : acts_at lig10 118 111 ≡ false
unfolding program_of walk lig10 half_char entries
no_word_acts_between_v_and_o = refl

pub o_and_o_are_quiet : is_quiet lig10 None (start_of lig10 (111 ∷ 111 ∷ []) true true) ≡ true
unfolding program_of walk lig10 half_char entries
o_and_o_are_quiet = refl

pub q_is_not_quiet_at_its_start : is_quiet lig10 None (start_of lig10 (113 ∷ []) true true) ≡ false
unfolding program_of walk lig10 half_char entries
q_is_not_quiet_at_its_start = refl

pub r_is_not_quiet_at_its_end : is_quiet lig10 None (start_of lig10 (114 ∷ []) false true) ≡ false
unfolding program_of walk lig10 half_char entries
r_is_not_quiet_at_its_end = refl
