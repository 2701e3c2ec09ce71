-- The messages of answers (this project's own). Each is one line; what counts in it counts from 1,
-- but offsets in bytes and words of files, which count from 0.
--     job_line, font_line, par_line   what is wrong with the job, a font or a paragraph
--     length_line                     that the output is too long
--     file_line                       what went wrong with a file of a name
--     par_number, par_place           the number of a paragraph's fault, and where it is
--     fixed_of answer                 the line of an answer that takes no memory
--     message_of answer name          the line of each answer, `name` being that of its file
use Rattle.std.specs.Prelude.{ℕ, ◌+◌, List, ◌++◌, codes, Option, Some, None}
use Rattle.std.specs.Fmt.{decimal}
use Rattle.hlist_build.specs.declared.fault.ParFault.{ParFault}
use Rattle.hlist_build.specs.declared.fault.ParFault.TheVariants.{MissingChar, LigTooLong, TooManyItems, MixedExpansion, OutOfRange, NoMemory as no_memory}
use Rattle.job_fonts.specs.Faults.{font_fault_number}
use Rattle.job_reading.specs.Faults.{fault_number}
use Rattle.micro_texts.specs.declared.answer.Answer.{Answer}
use Rattle.micro_texts.specs.declared.answer.Answer.TheVariants.{Done, Job, Font, Par, DviTooLong, BadWords, Absent, ReadFault, OutFault, TalkFault, NoMemory, FileTooLong}

-- at an offset, a fault of a number
unfoldable pub job_line : ℕ → ℕ → List ℕ
job_line offset fault =
    codes "pdfmicro: job: offset " ++ (decimal offset
    ++ (codes ": fault " ++ (decimal fault ++ codes "\n")))

-- of a font, at a word, a fault of a number
unfoldable pub font_line : ℕ → ℕ → ℕ → List ℕ
font_line font word fault =
    codes "pdfmicro: font " ++ (decimal font
    ++ (codes ": word " ++ (decimal word
    ++ (codes ": fault " ++ (decimal fault ++ codes "\n")))))

-- in a paragraph, a fault of a number, at a place
unfoldable pub par_line : ℕ → ℕ → ℕ → List ℕ
par_line paragraph fault place =
    codes "pdfmicro: paragraph " ++ (decimal paragraph
    ++ (codes ": fault " ++ (decimal fault
    ++ (codes " at " ++ (decimal place ++ codes "\n")))))

unfoldable pub length_line : ℕ → List ℕ
length_line bytes =
    codes "pdfmicro: output of " ++ (decimal bytes ++ codes " bytes is too long\n")

-- of a name, what went wrong
unfoldable pub file_line : List ℕ → List ℕ → List ℕ
file_line name wrong = codes "pdfmicro: " ++ (name ++ (codes ": " ++ (wrong ++ codes "\n")))

-- Want of memory is no fault of a paragraph, and has no number.
abbrev pub par_number : ParFault → ℕ
par_number (MissingChar offset) = 1
par_number (LigTooLong offset) = 2
par_number TooManyItems = 3
par_number (MixedExpansion font) = 4
par_number (OutOfRange line) = 5
par_number no_memory = 0

-- the offset of a part; how many items there may be; the font or the line, from 1
abbrev pub par_place : ParFault → ℕ
par_place (MissingChar offset) = offset
par_place (LigTooLong offset) = offset
par_place TooManyItems = 16384
par_place (MixedExpansion font) = font + 1
par_place (OutOfRange line) = line
par_place no_memory = 0

abbrev pub fixed_of : Answer → Option (List ℕ)
fixed_of BadWords = Some (codes "pdfmicro: bad words\n")
fixed_of OutFault = Some (codes "pdfmicro: output failed\n")
fixed_of NoMemory = Some (codes "pdfmicro: no memory\n")
fixed_of Done = None
fixed_of (Job offset kind) = None
fixed_of (Font font kind word) = None
fixed_of (Par at) = None
fixed_of (DviTooLong bytes) = None
fixed_of (Absent file) = None
fixed_of (ReadFault file) = None
fixed_of TalkFault = None
fixed_of (FileTooLong file) = None

-- no line where all went well, nor where none can be written
abbrev pub message_of : Answer → List ℕ → Option (List ℕ)
message_of Done name = None
message_of (Job offset kind) name = Some (job_line offset (fault_number kind))
message_of (Font font kind word) name =
    Some (font_line (font + 1) word (font_fault_number kind))
message_of (Par at) name =
    Some (par_line at.paragraph (par_number at.fault) (par_place at.fault))
message_of (DviTooLong bytes) name = Some (length_line bytes)
message_of BadWords name = fixed_of BadWords
message_of (Absent file) name = Some (file_line name (codes "not found"))
message_of (ReadFault file) name = Some (file_line name (codes "read failed"))
message_of OutFault name = fixed_of OutFault
message_of TalkFault name = None
message_of NoMemory name = fixed_of NoMemory
message_of (FileTooLong file) name = Some (file_line name (codes "too long"))
