-- The font of a declaration and the bytes of its file (TFM description; pdfTeX manual,
-- `\pdffontexpand`).
--     file_of decl                        the name of the file
--     IsFontRead decl bytes font          the bytes are a TFM file, and this is the font at its size
--     IsFontFault decl bytes kind word    the first fault: of the file, then of size, widths, kerns
--     IfFault, UnlessNoMemory             facts of an answer that is a fault, and not for want of memory
use Rattle.std.specs.Prelude.{◌≡◌, ℕ, ◌⊎◌, List, ◌++◌, codes, Some, None, Result, Ok, Err}
use Rattle.tfm_read.specs.Checks.{Fault, fault_of}
use Rattle.tfm_read.specs.Font.{IsTfm}
use Rattle.tfm_read.specs.declared.tfm.Tfm.{Tfm}
use Rattle.font_stock.specs.Making.{IsFontOf}
use Rattle.font_stock.specs.Refusals.{refusal_of}
use Rattle.font_stock.specs.declared.font.Font.{Font}
use Rattle.font_stock.specs.declared.refused.FontRefused.{FontRefused}
use Rattle.font_stock.specs.declared.refused.FontRefused.TheVariants.{SizePast as size_past, WidePast as wide_past, WideKern as wide_kern, NoMemory}
use Rattle.job_text.specs.declared.font_decl.FontDecl.{FontDecl}
use Rattle.job_fonts.specs.declared.fault.FontFault.{FontFault}
use Rattle.job_fonts.specs.declared.fault.FontFault.TheVariants.{At, NoMemory as no_memory}
use Rattle.job_fonts.specs.declared.fault.FontFaultKind.{FontFaultKind}
use Rattle.job_fonts.specs.declared.fault.FontFaultKind.TheVariants.{Tfm as tfm_fault, SizePast, WidePast, WideKern}

abbrev pub file_of : FontDecl → List ℕ
file_of decl = decl.name ++ codes ".tfm"

pub record IsFontRead (decl : FontDecl) (bytes : List ℕ) (font : Font) : Type 0 where
  pub tfm : Tfm
  pub read : IsTfm bytes tfm
  pub accepted : refusal_of tfm decl.size decl.expand ≡ None
  pub made : IsFontOf tfm decl.size decl.codes decl.expand font

-- a check of the file failed, at a word
pub record IsFileFault (bytes : List ℕ) (kind : FontFaultKind) (word : ℕ) : Type 0 where
  pub fault : Fault
  pub first : fault_of bytes ≡ Some fault
  pub is_kind : kind ≡ tfm_fault fault.kind
  pub is_word : word ≡ fault.word

-- why a font is refused
abbrev pub IsRefusedAs : FontRefused → FontFaultKind → Type 0
IsRefusedAs (size_past size) kind = kind ≡ SizePast
IsRefusedAs (wide_past code) kind = kind ≡ WidePast
IsRefusedAs (wide_kern index) kind = kind ≡ WideKern
IsRefusedAs NoMemory kind = ⊥

-- the file is right, and its font can't be had as declared
pub record IsFontRefused (decl : FontDecl) (bytes : List ℕ) (kind : FontFaultKind)
    (word : ℕ) : Type 0 where
  pub tfm : Tfm
  pub read : IsTfm bytes tfm
  pub refused : FontRefused
  pub first : refusal_of tfm decl.size decl.expand ≡ Some refused
  pub is_kind : IsRefusedAs refused kind
  pub is_word : word ≡ 0

abbrev pub IsFontFault : FontDecl → List ℕ → FontFaultKind → ℕ → Type 0
IsFontFault decl bytes kind word =
    IsFileFault bytes kind word ⊎ IsFontRefused decl bytes kind word

-- the fact of the kind and the word of a fault
abbrev pub IfFault : {X : Type 0} → Result X FontFault → (FontFaultKind → ℕ → Type 0) → Type 0
IfFault (Ok x) P = Unit {0}
IfFault (Err (At kind word)) P = P kind word
IfFault (Err no_memory) P = Unit {0}

-- the fact, unless memory ran out
abbrev pub UnlessNoMemory : {X : Type 0} → Result X FontFault → Type 0 → Type 0
UnlessNoMemory (Err no_memory) P = Unit {0}
UnlessNoMemory r P = P
