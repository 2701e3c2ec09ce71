-- A declaration and the bytes of its file have at most one font, at most one fault, and not both; and
-- what reading them answers.
use Rattle.std.proofs.Common.{◌≡◌, ℕ, ◌<◌, List, Some, None, Result, Ok, Err, length, refl, sym, ap, ◌∙◌, subst, inl, inr, arith}
use Rattle.std.specs.Prelude.{IfOk, slice_index}
use Rattle.std.proofs.Props.{props}
use Rattle.std.proofs.lemmas.List.{same_lists}
use mathlib.Core.HLevel.{is_prop→PathP}
use Rattle.tfm_read.specs.declared.tfm.Tfm.{Tfm}
use Rattle.tfm_read.specs.Checks.{Fault, fault_of}
use Rattle.tfm_read.specs.Font.{IsTfm}
use Rattle.tfm_read.proofs.OneFont as file
use Rattle.micro_num.specs.Scaling.{IsFontSize}
use Rattle.font_stock.specs.Fonts.{char_of, param_at}
use Rattle.font_stock.specs.Making.{AnswersFont}
use Rattle.font_stock.specs.Refusals.{refusal_of, too_wide, wide_kern}
use Rattle.font_stock.specs.Scaling.{AreScaled, scaled_char}
use Rattle.font_stock.specs.Sizes.{size_of}
use Rattle.font_stock.specs.declared.codes.FontCodes.{FontCodes}
use Rattle.font_stock.specs.declared.font.Font.{Font}
use Rattle.font_stock.specs.declared.refused.FontRefused.{FontRefused}
use Rattle.font_stock.specs.declared.refused.FontRefused.TheVariants.{SizePast as size_past, WidePast as wide_past, WideKern as wide_kern_refused, NoMemory as refused_memory}
use Rattle.job_text.specs.declared.font_decl.FontDecl.{FontDecl}
use Rattle.job_fonts.specs.declared.fault.FontFault.{FontFault}
use Rattle.job_fonts.specs.declared.fault.FontFault.TheVariants.{At, NoMemory}
use Rattle.job_fonts.specs.declared.fault.FontFaultKind.{FontFaultKind}
use Rattle.job_fonts.specs.declared.fault.FontFaultKind.TheVariants.{Tfm as tfm_fault}
use Rattle.job_fonts.specs.Faults.{of_refusal}
use Rattle.job_fonts.specs.Reads.{IsFontRead, IsFileFault, IsFontRefused, IsFontFault, IsRefusedAs, IfFault, UnlessNoMemory}

-- fonts of the same metrics, size and settings are the same: the rest is worked out of these
same_font : (a b : Font) → a.tfm ≡ b.tfm → a.size ≡ b.size → a.codes ≡ b.codes → a.expand ≡ b.expand → a ≡ b
same_font a b tfm size codes expand =
    let quad : a.quad ≡ b.quad = a.quad_is ∙ (λ i. param_at (tfm i) 5 (size i)) ∙ sym b.quad_is in
    let chars : a.chars ≡ b.chars =
    same_lists a.chars b.chars (a.chars_are.count ∙ sym b.chars_are.count)
    (λ k d lt. a.chars_are.each k d (omega (arith, lt, a.chars_are.count))
    ∙ (λ i. scaled_char (expand i) (size i) (slice_index (codes i).ef k) (char_of (tfm i) k))
    ∙ sym (b.chars_are.each k d (omega (arith, lt, a.chars_are.count)))) in
    λ i. record {
      tfm = tfm i;
      size = size i;
      codes = codes i;
      expand = expand i;
      quad = quad i;
      chars = chars i;
      size_fits = is_prop→PathP (λ j. IsFontSize (size j)) (λ j. hlevel props) a.size_fits b.size_fits i;
      widths_fit = is_prop→PathP (λ j. too_wide (expand j) (tfm j).chars ≡ None) (λ j. hlevel props) a.widths_fit b.widths_fit i;
      kerns_fit = is_prop→PathP (λ j. wide_kern (expand j) (tfm j).kerns ≡ None) (λ j. hlevel props) a.kerns_fit b.kerns_fit i;
      quad_is = is_prop→PathP (λ j. quad j ≡ param_at (tfm j) 5 (size j)) (λ j. hlevel props) a.quad_is b.quad_is i;
      chars_are = is_prop→PathP (λ j. AreScaled (tfm j) (codes j) (expand j) (size j) 256 (chars j)) (λ j. hlevel props) a.chars_are b.chars_are i;
    }

pub one_font : (decl : FontDecl) (bytes : List ℕ) (a b : Font) → IsFontRead decl bytes a → IsFontRead decl bytes b → a ≡ b
one_font decl bytes a b p q =
    let tfm : p.tfm ≡ q.tfm = file.one_font bytes p.tfm q.tfm p.read q.read in
    same_font a b (p.made.metrics ∙ tfm ∙ sym q.made.metrics)
    (p.made.size_asked ∙ ap (λ (t : Tfm). size_of t.design decl.size) tfm ∙ sym q.made.size_asked)
    (p.made.settings ∙ sym q.made.settings)
    (p.made.expansion ∙ sym q.made.expansion)

-- a cause of one kind
one_kind : (refused : FontRefused) (kind other : FontFaultKind) → IsRefusedAs refused kind → IsRefusedAs refused other → kind ≡ other
one_kind (size_past size) kind other p q = p ∙ sym q
one_kind (wide_past code) kind other p q = p ∙ sym q
one_kind (wide_kern_refused index) kind other p q = p ∙ sym q
one_kind refused_memory kind other p q = absurd p

one_file_fault : (bytes : List ℕ) (kind other : FontFaultKind) (word at : ℕ) → IsFileFault bytes kind word → IsFileFault bytes other at → (kind ≡ other) × (word ≡ at)
one_file_fault bytes kind other word at p q =
    let same : Some p.fault ≡ Some q.fault = sym p.first ∙ q.first in
    let fault : p.fault ≡ q.fault = cc in (
      p.is_kind ∙ ap (λ (f : Fault). tfm_fault f.kind) fault ∙ sym q.is_kind,
      p.is_word ∙ ap (λ (f : Fault). f.word) fault ∙ sym q.is_word,
    )

one_refusal : (decl : FontDecl) (bytes : List ℕ) (kind other : FontFaultKind) (word at : ℕ) → IsFontRefused decl bytes kind word → IsFontRefused decl bytes other at → (kind ≡ other) × (word ≡ at)
one_refusal decl bytes kind other word at p q =
    let tfm : p.tfm ≡ q.tfm = file.one_font bytes p.tfm q.tfm p.read q.read in
    let same : Some p.refused ≡ Some q.refused = sym p.first ∙ ap (λ t. refusal_of t decl.size decl.expand) tfm ∙ q.first in
    let refused : p.refused ≡ q.refused = cc in (
      one_kind q.refused kind other (subst (λ r. IsRefusedAs r kind) refused p.is_kind) q.is_kind,
      p.is_word ∙ sym q.is_word,
    )

-- a file with a fault has no font
unsound : (bytes : List ℕ) (fault : Fault) → fault_of bytes ≡ None → fault_of bytes ≡ Some fault → ⊥
unsound bytes fault none some = let e : None ≡ Some fault = sym none ∙ some in absurd cc

pub one_fault : (decl : FontDecl) (bytes : List ℕ) (kind other : FontFaultKind) (word at : ℕ) → IsFontFault decl bytes kind word → IsFontFault decl bytes other at → (kind ≡ other) × (word ≡ at)
one_fault decl bytes kind other word at (inl p) (inl q) = one_file_fault bytes kind other word at p q
one_fault decl bytes kind other word at (inl p) (inr q) = absurd (unsound bytes p.fault q.read.sound p.first)
one_fault decl bytes kind other word at (inr p) (inl q) = absurd (unsound bytes q.fault p.read.sound q.first)
one_fault decl bytes kind other word at (inr p) (inr q) = one_refusal decl bytes kind other word at p q

pub font_or_fault : (decl : FontDecl) (bytes : List ℕ) (font : Font) (kind : FontFaultKind) (word : ℕ) → IsFontRead decl bytes font → IsFontFault decl bytes kind word → ⊥
font_or_fault decl bytes font kind word p (inl q) = unsound bytes q.fault p.read.sound q.first
font_or_fault decl bytes font kind word p (inr q) =
    let tfm : p.tfm ≡ q.tfm = file.one_font bytes p.tfm q.tfm p.read q.read in
    let e : None ≡ Some q.refused = sym p.accepted ∙ ap (λ t. refusal_of t decl.size decl.expand) tfm ∙ q.first in
    absurd cc

-- ---- the contract of the reading

-- the file is right, and the font is refused as declared
pub refused-fault : (decl : FontDecl) (bytes : List ℕ) (tfm : Tfm) (codes : FontCodes) (refused : FontRefused) → IsTfm bytes tfm → AnswersFont tfm decl.size codes decl.expand (Err refused)
    → IfFault {X = Font} (Err (of_refusal refused)) (IsFontFault decl bytes)
refused-fault decl bytes tfm codes (size_past size) read first =
    inr (record { tfm = tfm; read = read; refused = size_past size; first = first; is_kind = refl; is_word = refl })
refused-fault decl bytes tfm codes (wide_past code) read first =
    inr (record { tfm = tfm; read = read; refused = wide_past code; first = first; is_kind = refl; is_word = refl })
refused-fault decl bytes tfm codes (wide_kern_refused index) read first =
    inr (record { tfm = tfm; read = read; refused = wide_kern_refused index; first = first; is_kind = refl; is_word = refl })
refused-fault decl bytes tfm codes refused_memory read first = tt

pub only_font : (decl : FontDecl) (bytes : List ℕ) (r : Result Font FontFault) → IfOk r (IsFontRead decl bytes) → IfFault r (IsFontFault decl bytes) → (font : Font) → IsFontRead decl bytes font
    → UnlessNoMemory r (r ≡ Ok font)
only_font decl bytes (Ok x) found fault font is = ap Ok (one_font decl bytes x font found is)
only_font decl bytes (Err (At kind word)) found fault font is = absurd (font_or_fault decl bytes font kind word is fault)
only_font decl bytes (Err NoMemory) found fault font is = tt

pub first_fault : (decl : FontDecl) (bytes : List ℕ) (r : Result Font FontFault) → IfOk r (IsFontRead decl bytes) → IfFault r (IsFontFault decl bytes) → (kind : FontFaultKind) (word : ℕ)
    → IsFontFault decl bytes kind word → UnlessNoMemory r (r ≡ Err (At kind word))
first_fault decl bytes (Ok x) found fault kind word is = absurd (font_or_fault decl bytes x kind word found is)
first_fault decl bytes (Err (At found_kind found_word)) found fault kind word is =
    let same = one_fault decl bytes found_kind kind found_word word fault is in
    λ i. Err (At (same.0 i) (same.1 i))
first_fault decl bytes (Err NoMemory) found fault kind word is = tt
