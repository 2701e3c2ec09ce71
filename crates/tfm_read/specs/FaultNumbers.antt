-- The numbers of the kinds of faults, which are this project's own.
use Rattle.std.specs.Prelude.{ℕ}
use Rattle.tfm_read.specs.declared.fault.TfmFaultKind.{TfmFaultKind}
use Rattle.tfm_read.specs.declared.fault.TfmFaultKind.TheVariants.{Short, LengthsDisagree, BadRange, EmptyTable, IndexPast, NotZeroFirst, BadFix, LigPast, NoSuchChar, DesignTooSmall}

-- the number of a kind, from 1 to 10
abbrev pub number_of : TfmFaultKind → ℕ
number_of Short = 1
number_of LengthsDisagree = 2
number_of BadRange = 3
number_of EmptyTable = 4
number_of IndexPast = 5
number_of NotZeroFirst = 6
number_of BadFix = 7
number_of LigPast = 8
number_of NoSuchChar = 9
number_of DesignTooSmall = 10
