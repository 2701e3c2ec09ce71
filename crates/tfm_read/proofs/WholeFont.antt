-- The parts of a file make the font that it is.
use Rattle.std.proofs.Common.{◌≡◌, ℕ, List, Option, Some, None, length, ℤ, refl, subst}
use Rattle.tfm_read.specs.declared.character.CharInfo.{CharInfo}
use Rattle.tfm_read.specs.declared.lengths.Lengths.{Lengths}
use Rattle.tfm_read.specs.declared.ligature.Programs.{Programs}
use Rattle.tfm_read.specs.Characters.{chars_of, char_of}
use Rattle.tfm_read.specs.Checks.{Fault, characters_fault, design_fault, fix_check, lig_check, param_check, words_fault}
use Rattle.tfm_read.specs.Entries.{entries, first_of}
use Rattle.tfm_read.specs.Lengths.{places_of}
use Rattle.tfm_read.specs.Ligatures.{ArePrograms, lig_of, right_of}
use Rattle.tfm_read.specs.Sizes.{AreKerns, AreParamsOf}
use Rattle.tfm_read.proofs.Entries.{length-entries}

-- the first fault among the ligature words
abbrev pub lig_stage : List ℕ → List CharInfo → (kerns place count : ℕ) → Option Fault
lig_stage bytes chars kerns place count = first_of (lig_check bytes chars (right_of (entries (lig_of bytes place) count)) kerns count place) count

pub lig_stage_same : (bytes : List ℕ) (chars chars' : List CharInfo) (kerns kerns' place place' count count' : ℕ) → chars ≡ chars' → kerns ≡ kerns' → place ≡ place' → count ≡ count'
    → lig_stage bytes chars kerns place count ≡ lig_stage bytes chars' kerns' place' count'
lig_stage_same bytes chars chars' kerns kerns' place place' count count' ec ek ep en = rw (ec, ek, ep, en) refl

pub programs_moved : (bytes : List ℕ) (chars chars' : List CharInfo) (kerns kerns' place place' count count' : ℕ) (programs : Programs) → chars ≡ chars' → kerns ≡ kerns' → place ≡ place' → count ≡ count'
    → ArePrograms bytes place count chars kerns programs → ArePrograms bytes place' count' chars' kerns' programs
programs_moved bytes chars chars' kerns kerns' place place' count count' programs ec ek ep en read =
    subst (λ (x : List CharInfo). ArePrograms bytes place' count' x kerns' programs) ec
    (subst (λ (x : ℕ). ArePrograms bytes place' count' chars x programs) ek
    (subst (λ (x : ℕ). ArePrograms bytes x count' chars kerns programs) ep
    (subst (λ (x : ℕ). ArePrograms bytes place x chars kerns programs) en read)))

pub kerns_moved : (bytes : List ℕ) (place place' count count' : ℕ) (kerns : List ℤ) → place ≡ place' → count ≡ count' → (first_of (fix_check bytes place) count ≡ None) × AreKerns bytes place count kerns
    → (first_of (fix_check bytes place') count' ≡ None) × AreKerns bytes place' count' kerns
kerns_moved bytes place place' count count' kerns ep en read =
    subst (λ (x : ℕ). (first_of (fix_check bytes x) count' ≡ None) × AreKerns bytes x count' kerns) ep
    (subst (λ (x : ℕ). (first_of (fix_check bytes place) x ≡ None) × AreKerns bytes place x kerns) en read)

pub params_moved : (bytes : List ℕ) (place place' count count' : ℕ) (params : List ℤ) → place ≡ place' → count ≡ count' → (first_of (param_check bytes place) count ≡ None) × AreParamsOf bytes place count params
    → (first_of (param_check bytes place') count' ≡ None) × AreParamsOf bytes place' count' params
params_moved bytes place place' count count' params ep en read =
    subst (λ (x : ℕ). (first_of (param_check bytes x) count' ≡ None) × AreParamsOf bytes x count' params) ep
    (subst (λ (x : ℕ). (first_of (param_check bytes place) x ≡ None) × AreParamsOf bytes place x params) en read)

pub kern_stage_same : (bytes : List ℕ) (place place' count count' : ℕ) → place ≡ place' → count ≡ count' → first_of (fix_check bytes place) count ≡ first_of (fix_check bytes place') count'
kern_stage_same bytes place place' count count' ep en = rw (ep, en) refl

pub param_stage_same : (bytes : List ℕ) (place place' count count' : ℕ) → place ≡ place' → count ≡ count' → first_of (param_check bytes place) count ≡ first_of (param_check bytes place') count'
param_stage_same bytes place place' count count' ep en = rw (ep, en) refl

pub length-chars_of : (bytes : List ℕ) (l : Lengths) → length (chars_of bytes l) ≡ 256
unfolding chars_of
length-chars_of bytes l = length-entries (char_of bytes l) 256

pub words_none : (bytes : List ℕ) (l : Lengths) → design_fault bytes ≡ None
    → characters_fault bytes l ≡ None
    → lig_stage bytes (chars_of bytes l) l.kerns (places_of l).ligs l.ligs ≡ None
    → first_of (fix_check bytes (places_of l).kerns) l.kerns ≡ None
    → first_of (param_check bytes (places_of l).params) l.params ≡ None
    → words_fault bytes l ≡ None
unfolding words_fault
words_none bytes l d c g k p = rw (d, c, g, k, p) refl

pub fault_in_design : (bytes : List ℕ) (l : Lengths) (fault : Fault) → design_fault bytes ≡ Some fault → words_fault bytes l ≡ Some fault
unfolding words_fault
fault_in_design bytes l fault here = rw (here) refl

pub fault_in_characters : (bytes : List ℕ) (l : Lengths) (fault : Fault) → design_fault bytes ≡ None
    → characters_fault bytes l ≡ Some fault → words_fault bytes l ≡ Some fault
unfolding words_fault
fault_in_characters bytes l fault d here = rw (d, here) refl

pub fault_in_ligs : (bytes : List ℕ) (l : Lengths) (fault : Fault) → design_fault bytes ≡ None
    → characters_fault bytes l ≡ None
    → lig_stage bytes (chars_of bytes l) l.kerns (places_of l).ligs l.ligs ≡ Some fault → words_fault bytes l ≡ Some fault
unfolding words_fault
fault_in_ligs bytes l fault d c here = rw (d, c, here) refl

pub fault_in_kerns : (bytes : List ℕ) (l : Lengths) (fault : Fault) → design_fault bytes ≡ None
    → characters_fault bytes l ≡ None
    → lig_stage bytes (chars_of bytes l) l.kerns (places_of l).ligs l.ligs ≡ None
    → first_of (fix_check bytes (places_of l).kerns) l.kerns ≡ Some fault → words_fault bytes l ≡ Some fault
unfolding words_fault
fault_in_kerns bytes l fault d c g here = rw (d, c, g, here) refl

pub fault_in_params : (bytes : List ℕ) (l : Lengths) (fault : Fault) → design_fault bytes ≡ None
    → characters_fault bytes l ≡ None
    → lig_stage bytes (chars_of bytes l) l.kerns (places_of l).ligs l.ligs ≡ None
    → first_of (fix_check bytes (places_of l).kerns) l.kerns ≡ None
    → first_of (param_check bytes (places_of l).params) l.params ≡ Some fault → words_fault bytes l ≡ Some fault
unfolding words_fault
fault_in_params bytes l fault d c g k here = rw (d, c, g, k, here) refl
