-- At most one font is that of a file.
use Rattle.std.proofs.Common.{◌<◌, ◌^◌, ◌≡◌, ℕ, List, Some, None, Result, Ok, Err, length, All, refl, sym, ap, ◌∙◌}
use Rattle.std.specs.Prelude.{IfOk}
use Rattle.std.proofs.Props.{props}
use mathlib.Core.HLevel.{is_prop→PathP}
use Rattle.tfm_read.specs.declared.fault.TfmFault.{TfmFault}
use Rattle.tfm_read.specs.declared.fault.TfmFault.TheVariants.{NoMemory, At}
use Rattle.tfm_read.specs.declared.fault.TfmFaultKind.{TfmFaultKind}
use Rattle.tfm_read.specs.declared.tfm.Tfm.{Tfm}
use Rattle.tfm_read.specs.Checks.{Answers, Fault, fault_of}
use Rattle.tfm_read.specs.Font.{IsRead, IsTfm, UnlessNoMemory}
use Rattle.tfm_read.specs.Lengths.{lengths_of, places_of}
use Rattle.tfm_read.specs.Ligatures.{lig_of}
use Rattle.tfm_read.specs.Sizes.{size_of}
use Rattle.tfm_read.proofs.Entries.{length-entries}
use Rattle.micro_num.specs.Scaling.{IsFixWord}
use Rattle.tfm_read.specs.Ranges.{AreParams, IsDesignSize, IsPlaceIn, CharFits, LigsFit}

-- fonts with the same fields are the same
same_font : (a b : Tfm) → a.checksum ≡ b.checksum → a.design ≡ b.design → a.chars ≡ b.chars → a.ligs ≡ b.ligs → a.kerns ≡ b.kerns → a.params ≡ b.params → a.right ≡ b.right → a.left ≡ b.left → a ≡ b
same_font a b checksum design chars ligs kerns params right left = λ i. record {
  checksum = checksum i;
  design = design i;
  chars = chars i;
  ligs = ligs i;
  kerns = kerns i;
  params = params i;
  right = right i;
  left = left i;
  every_code = is_prop→PathP (λ j. length (chars j) ≡ 256) (λ j. hlevel props) a.every_code b.every_code i;
  design_fits = is_prop→PathP (λ j. IsDesignSize (design j)) (λ j. hlevel props) a.design_fits b.design_fits i;
  chars_fit = is_prop→PathP (λ j. All (CharFits (length (ligs j))) (chars j)) (λ j. hlevel props) a.chars_fit b.chars_fit i;
  ligs_fit = is_prop→PathP (λ j. LigsFit (chars j) (right j) (length (kerns j)) (ligs j)) (λ j. hlevel props) a.ligs_fit b.ligs_fit i;
  kerns_fit = is_prop→PathP (λ j. All IsFixWord (kerns j)) (λ j. hlevel props) a.kerns_fit b.kerns_fit i;
  few_kerns = is_prop→PathP (λ j. length (kerns j) < 2 ^ 15) (λ j. hlevel props) a.few_kerns b.few_kerns i;
  params_fit = is_prop→PathP (λ j. AreParams (params j)) (λ j. hlevel props) a.params_fit b.params_fit i;
  left_fits = is_prop→PathP (λ j. IsPlaceIn (length (ligs j)) (left j)) (λ j. hlevel props) a.left_fits b.left_fits i;
}

pub one_font : (bytes : List ℕ) (a b : Tfm) → IsTfm bytes a → IsTfm bytes b → a ≡ b
one_font bytes a b p q =
    let x = p.fields in
    let y = q.fields in
    same_font a b (x.checksum ∙ sym y.checksum) (x.design ∙ sym y.design) (x.chars ∙ sym y.chars) (x.ligs ∙ sym y.ligs) (x.kerns ∙ sym y.kerns) (x.params ∙ sym y.params) (x.right ∙ sym y.right) (x.left ∙ sym y.left)

pub counts : (bytes : List ℕ) (tfm : Tfm) → IsTfm bytes tfm → (length tfm.ligs ≡ (lengths_of bytes).ligs) × (length tfm.kerns ≡ (lengths_of bytes).kerns)
counts bytes tfm font = (
  ap length font.fields.ligs ∙ length-entries (lig_of bytes (places_of (lengths_of bytes)).ligs) (lengths_of bytes).ligs,
  ap length font.fields.kerns ∙ length-entries (size_of bytes (places_of (lengths_of bytes)).kerns) (lengths_of bytes).kerns,
)

-- ---- the contract of the reader

pub is_found : (bytes : List ℕ) (r : Result Tfm TfmFault) → Answers r (fault_of bytes) (IsRead bytes (lengths_of bytes)) → IfOk r (IsTfm bytes)
is_found bytes (Ok x) answers = record { sound = answers.0; fields = answers.1 }
is_found bytes (Err f) answers = tt

none_is_no_fault : (bytes : List ℕ) (fault : Fault) → fault_of bytes ≡ None → fault_of bytes ≡ Some fault → ⊥
none_is_no_fault bytes fault none some = let e : None ≡ Some fault = sym none ∙ some in absurd cc

pub is_only : (bytes : List ℕ) (r : Result Tfm TfmFault) → Answers r (fault_of bytes) (IsRead bytes (lengths_of bytes)) → (tfm : Tfm) → IsTfm bytes tfm → UnlessNoMemory r (r ≡ Ok tfm)
is_only bytes (Ok x) answers tfm font = ap Ok (one_font bytes x tfm (record { sound = answers.0; fields = answers.1 }) font)
is_only bytes (Err NoMemory) answers tfm font = tt
is_only bytes (Err (At kind word)) answers tfm font = absurd (none_is_no_fault bytes (record { kind = kind; word = word }) font.sound answers)

pub is_refused : (bytes : List ℕ) (r : Result Tfm TfmFault) → Answers r (fault_of bytes) (IsRead bytes (lengths_of bytes)) → (kind : TfmFaultKind) (word : ℕ) → r ≡ Err (At kind word)
    → fault_of bytes ≡ Some (record { kind = kind; word = word })
is_refused bytes (Ok x) answers kind word e = absurd cc
is_refused bytes (Err NoMemory) answers kind word e = absurd cc
is_refused bytes (Err (At kind' word')) answers kind word e =
    let same_kind : kind' ≡ kind = cc in
    let same_word : word' ≡ word = cc in
    answers ∙ rw (same_kind, same_word) refl

pub is_fault : (bytes : List ℕ) (r : Result Tfm TfmFault) → Answers r (fault_of bytes) (IsRead bytes (lengths_of bytes)) → (fault : Fault) → fault_of bytes ≡ Some fault
    → UnlessNoMemory r (r ≡ Err (At fault.kind fault.word))
is_fault bytes (Ok x) answers fault e = absurd (none_is_no_fault bytes fault answers.0 e)
is_fault bytes (Err NoMemory) answers fault e = tt
is_fault bytes (Err (At kind word)) answers fault e =
    let same : Some (record { kind = kind; word = word }) ≡ Some fault = sym answers ∙ e in
    let is : record { kind = kind; word = word } ≡ fault = cc in
    ap (λ (f : Fault). Err (At f.kind f.word)) is
