-- The faults of a job by their numbers, and those of the tokens among them, which come before all others. They
-- are the job language's own.
use Rattle.std.specs.Prelude.{◌≡◌, ℕ, List}
use Rattle.job_lex.specs.Tokens.{IsFirstFault}
use Rattle.job_lex.specs.declared.fault.LexFaultKind.{LexFaultKind}
use Rattle.job_lex.specs.declared.fault.LexFaultKind.TheVariants.{BadByte as bad_byte, LoneBackslash as lone_backslash, SpecialByte as special_byte}
use Rattle.job_reading.specs.declared.fault.JobFaultKind.{JobFaultKind}
use Rattle.job_reading.specs.declared.fault.JobFaultKind.TheVariants.{UnknownWord, NumberExpected, NumberPast, UnitExpected, DimensionTooLarge, InfiniteShrink, AssignmentInParagraph, FontNotDeclared, BadPattern, BadException, UnclosedGroup, TooManyFonts, TooManyParagraphs, TooManyCells, NoFont, BadByte, LoneBackslash, SpecialByte, LateDeclaration, NameTaken, BadName, StrayBrace, BadDiscretionary, GroupExpected}

-- the number of a fault
abbrev pub fault_number : JobFaultKind → ℕ
fault_number UnknownWord = 1
fault_number NumberExpected = 2
fault_number NumberPast = 3
fault_number UnitExpected = 4
fault_number DimensionTooLarge = 5
fault_number InfiniteShrink = 6
fault_number AssignmentInParagraph = 7
fault_number FontNotDeclared = 8
fault_number BadPattern = 9
fault_number BadException = 10
fault_number UnclosedGroup = 11
fault_number TooManyFonts = 12
fault_number TooManyParagraphs = 13
fault_number TooManyCells = 14
fault_number NoFont = 15
fault_number BadByte = 16
fault_number LoneBackslash = 17
fault_number SpecialByte = 18
fault_number LateDeclaration = 19
fault_number NameTaken = 20
fault_number BadName = 21
fault_number StrayBrace = 22
fault_number BadDiscretionary = 23
fault_number GroupExpected = 24

abbrev pub job_kind : LexFaultKind → JobFaultKind
job_kind bad_byte = BadByte
job_kind lone_backslash = LoneBackslash
job_kind special_byte = SpecialByte

-- no token begins at the place
pub record IsTokenFault (bytes : List ℕ) (place : ℕ) (kind : JobFaultKind) : Type 0 where
  pub cause : LexFaultKind
  pub first : IsFirstFault bytes place cause
  pub is : kind ≡ job_kind cause
