-- What is wrong with a font: words of this project's own.
--     font_fault_number kind   the number of a kind
--     of_file fault            the fault of a font whose file has one
--     of_refusal refused       the fault of a font that can't be had as declared
use Rattle.std.specs.Prelude.{ℕ}
use Rattle.tfm_read.specs.FaultNumbers.{number_of}
use Rattle.tfm_read.specs.declared.fault.TfmFault.{TfmFault}
use Rattle.tfm_read.specs.declared.fault.TfmFault.TheVariants.{At as tfm_at, NoMemory as tfm_memory}
use Rattle.font_stock.specs.declared.refused.FontRefused.{FontRefused}
use Rattle.font_stock.specs.declared.refused.FontRefused.TheVariants.{SizePast as size_past, WidePast as wide_past, WideKern as wide_kern, NoMemory as refused_memory}
use Rattle.job_fonts.specs.declared.fault.FontFault.{FontFault}
use Rattle.job_fonts.specs.declared.fault.FontFault.TheVariants.{At, NoMemory}
use Rattle.job_fonts.specs.declared.fault.FontFaultKind.{FontFaultKind}
use Rattle.job_fonts.specs.declared.fault.FontFaultKind.TheVariants.{Tfm, SizePast, WidePast, WideKern}

abbrev pub font_fault_number : FontFaultKind → ℕ
font_fault_number (Tfm kind) = number_of kind
font_fault_number SizePast = 11
font_fault_number WidePast = 12
font_fault_number WideKern = 13

abbrev pub of_file : TfmFault → FontFault
of_file (tfm_at kind word) = At (Tfm kind) word
of_file tfm_memory = NoMemory

abbrev pub of_refusal : FontRefused → FontFault
of_refusal (size_past size) = At SizePast 0
of_refusal (wide_past code) = At WidePast 0
of_refusal (wide_kern index) = At WideKern 0
of_refusal refused_memory = NoMemory
