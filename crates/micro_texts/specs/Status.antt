-- The statuses that a program ends with (this project's own).
--     status_of answer    the status of an answer
use Rattle.std.specs.Prelude.{ℕ}
use Rattle.micro_texts.specs.declared.answer.Answer.{Answer}
use Rattle.micro_texts.specs.declared.answer.Answer.TheVariants.{Done, Job, Font, Par, DviTooLong, BadWords, Absent, ReadFault, OutFault, TalkFault, NoMemory, FileTooLong}

abbrev pub status_of : Answer → ℕ
status_of Done = 0
status_of (Job offset kind) = 1
status_of (Font font kind word) = 1
status_of (Par at) = 1
status_of (DviTooLong bytes) = 1
status_of BadWords = 2
status_of (Absent file) = 3
status_of (ReadFault file) = 4
status_of OutFault = 5
status_of TalkFault = 6
status_of NoMemory = 7
status_of (FileTooLong file) = 8
