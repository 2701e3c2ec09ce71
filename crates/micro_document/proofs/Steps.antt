-- The steps of a run, from the last back to the first.
--     font_missed, font_stopped, font_goes_on            one font
--     fonts_more, fonts_stop, fonts_lost, fonts_end      the fonts of a job
--     given_none, given_more, given_stops, given_end     those that all have the same file
--     job_refused, job_goes_on, job_made, job_unmade     the job
--     file_missed, file_goes_on                          the file of the job
--     kind_found, words_refused, words_go_on             the command and its words
use Rattle.std.proofs.Common.{◌≡◌, ℕ, ◌+◌, ◌^◌, ◌<◌, List, [], ◌∷◌, ◌++◌, length, drop, replicate, refl, sym, ◌∙◌, ap, subst, arith}
use Rattle.std.proofs.Common.{Option, Some, None, Result, Ok, Err, ◌⊎◌, inl, inr, length-append, drop-cons, get_or, add-one}
use Rattle.outside_io.specs.Counts.{RisesBy}
use Rattle.outside_io.specs.States.{ShelfState}
use Rattle.font_stock.specs.declared.font.Font.{Font}
use Rattle.job_text.specs.Answers.{said_of, IsJobOf}
use Rattle.job_text.specs.declared.font_decl.FontDecl.{FontDecl}
use Rattle.job_text.specs.declared.job.Job.{Job}
use Rattle.job_fonts.specs.Reads.{file_of, IsFontRead, IsFontFault}
use Rattle.job_fonts.specs.declared.fault.FontFaultKind.{FontFaultKind}
use Rattle.job_fonts.specs.Reads.{IfFault}
use Rattle.job_fonts.specs.declared.fault.FontFault.{FontFault}
use Rattle.job_fonts.specs.declared.fault.FontFault.TheVariants.{At, NoMemory as no_memory}
use Rattle.micro_words.specs.declared.command.Cmd.{Cmd}
use Rattle.micro_words.specs.declared.command.CommandKind.{CommandKind}
use Rattle.micro_texts.specs.declared.answer.Answer.{Answer}
use Rattle.micro_texts.specs.declared.answer.Answer.TheVariants.{BadWords, NoMemory}
use Rattle.micro_texts.specs.declared.answer.Answer.TheVariants.{Font as font_fault}
use Rattle.micro_document.specs.declared.made.Made.{Made}
use Rattle.micro_document.specs.declared.stop.Stop.{Stop}
use Rattle.micro_document.specs.Stopping.{stop_of}
use Rattle.micro_document.specs.Making.{Makes, Settles}
use Rattle.micro_document.specs.Outcome.{Outcome, Document, behind}
use Rattle.micro_document.specs.Outcome.Outcome.{Wants, Refuses, Gives}
use Rattle.micro_document.specs.Document.{Finish, FontsFrom, IsJobRefusal, JobFrom, FilesFrom, KindFrom, DocOf, font_answer}
use Rattle.micro_document.specs.Finding.{WasRead, ShelfStays, Misses, Concludes, Finds, GoesOn}
use Rattle.micro_document.specs.Steps.{FontGoesOn, FontStops, FontsGoOn, FontsStop, GivesFonts, RefusesFonts}
use Rattle.micro_document.proofs.Findings.{finds_within, finds_behind, finds_missed, finds_no_memory, finds_concluded}

abbrev pub error_of : Result Made Answer → Answer
error_of (Ok made) = NoMemory
error_of (Err answer) = answer

finds_number : (first next : ℕ) (D : Document) (shelf later : ShelfState) (found : Result Made Stop) → first ≡ next → Finds first D shelf later found → Finds next D shelf later found
finds_number first next D shelf later found e f = let P : ℕ → Type 0 = λ n. Finds n D shelf later found in subst P e f

-- one file was asked for, and this is what its shelf says of it
pub record IsAsked (shelf later : ShelfState) : Type 0 where
  pub stays : ShelfStays shelf later
  pub called : RisesBy 1 shelf.calls later.calls
  pub fits : later.calls < 2 ^ 64

-- ---- one font

pub font_missed : (number : ℕ) (decl : FontDecl) (name : List ℕ) (shelf later : ShelfState) (stop : Stop) → name ≡ file_of decl → IsAsked shelf later → Misses name (number + 1) shelf later stop → FontStops number decl shelf later stop
font_missed number decl name shelf later stop e asked misses = λ finish job stock decls count.
    finds_missed (number + 1) (FontsFrom finish job stock (decl ∷ decls)) name shelf later stop (ap Wants e) asked.stays asked.called misses

-- of a font whose file was read
font_behind : (number : ℕ) (decl : FontDecl) (name bytes : List ℕ) (shelf middle later : ShelfState) (found : Result Made Stop) → name ≡ file_of decl → WasRead shelf.files name bytes → IsAsked shelf middle
    → (finish : Finish) (job : Job) (stock : List Font) (decls : List FontDecl)
    → Finds (number + 2) (behind (FontsFrom finish job stock (decl ∷ decls)) bytes) middle later found
    → Finds (number + 1) (FontsFrom finish job stock (decl ∷ decls)) shelf later found
font_behind number decl name bytes shelf middle later found e read asked finish job stock decls f =
    let D : Document = FontsFrom finish job stock (decl ∷ decls) in
    finds_behind (number + 1) D name bytes shelf middle later found (ap Wants e) read asked.stays asked.called
    (finds_number (number + 2) (number + 1 + 1) (behind D bytes) middle later found (omega arith) f)

font_lost : (number : ℕ) (decl : FontDecl) (name bytes : List ℕ) (shelf later : ShelfState) → name ≡ file_of decl → WasRead shelf.files name bytes → IsAsked shelf later → FontStops number decl shelf later (stop_of NoMemory)
font_lost number decl name bytes shelf later e read asked = λ finish job stock decls count.
    font_behind number decl name bytes shelf later later (Err (stop_of NoMemory)) e read asked finish job stock decls
    (finds_no_memory (number + 2) (behind (FontsFrom finish job stock (decl ∷ decls)) bytes) later asked.fits)

font_refused : (number : ℕ) (decl : FontDecl) (name bytes : List ℕ) (shelf later : ShelfState) (kind : FontFaultKind) (word : ℕ) → name ≡ file_of decl → WasRead shelf.files name bytes → IsAsked shelf later
    → IsFontFault decl bytes kind word → FontStops number decl shelf later (stop_of (font_fault number kind word))
font_refused number decl name bytes shelf later kind word e read asked fault = λ finish job stock decls count.
    font_behind number decl name bytes shelf later later (Err (stop_of (font_fault number kind word))) e read asked finish job stock decls
    (finds_concluded (number + 2) (behind (FontsFrom finish job stock (decl ∷ decls)) bytes) (Refuses (font_fault number kind word)) later (Err (stop_of (font_fault number kind word))) asked.fits
    (inl (record { kind = kind; word = word; fault = fault; is = ap (λ n. Refuses (font_fault n kind word)) (sym count) })) refl)

pub font_stopped : (number : ℕ) (decl : FontDecl) (name bytes : List ℕ) (shelf later : ShelfState) (fault : FontFault) → name ≡ file_of decl → WasRead shelf.files name bytes → IsAsked shelf later
    → IfFault {X = Font} (Err fault) (IsFontFault decl bytes) → FontStops number decl shelf later (stop_of (font_answer number fault))
font_stopped number decl name bytes shelf later (At kind word) e read asked is = font_refused number decl name bytes shelf later kind word e read asked is
font_stopped number decl name bytes shelf later no_memory e read asked is = font_lost number decl name bytes shelf later e read asked

pub font_goes_on : (number : ℕ) (decl : FontDecl) (name bytes : List ℕ) (font : Font) (shelf middle : ShelfState) → name ≡ file_of decl → WasRead shelf.files name bytes → IsAsked shelf middle → IsFontRead decl bytes font → FontGoesOn number decl shelf middle font
font_goes_on number decl name bytes font shelf middle e read asked is = λ finish job stock decls count later found f.
    let D : Document = FontsFrom finish job stock (decl ∷ decls) in
    font_behind number decl name bytes shelf middle later found e read asked finish job stock decls
    (finds_within (number + 2) (FontsFrom finish job (stock ++ font ∷ []) decls) (behind D bytes) middle later found (λ r o d. inr (font, is, d)) f)

-- ---- the fonts of a job

-- so many fonts were read, and what is found from there on is found of all
abbrev pub FontsLeft : Job → ShelfState → List Font → List FontDecl → ShelfState → Type 0
FontsLeft job shelf fonts left middle =
    (finish : Finish) → GoesOn 1 (FontsFrom finish job [] job.fonts) shelf (length fonts + 1) (FontsFrom finish job fonts left) middle

pub fonts_more : (job : Job) (shelf middle later : ShelfState) (fonts grown : List Font) (number : ℕ) (font : Font) (decl : FontDecl) (left behind : List FontDecl) → number ≡ length fonts → grown ≡ fonts ++ font ∷ [] → left ≡ decl ∷ behind
    → FontsLeft job shelf fonts left middle → FontGoesOn number decl middle later font → FontsLeft job shelf grown behind later
fonts_more job shelf middle later fonts grown number font decl left behind count grows split before one = λ finish last found f.
    let P : List FontDecl → Type 0 = λ l. FontsLeft job shelf fonts l middle in
    let Q : List Font → Type 0 = λ s. Finds (length s + 1) (FontsFrom finish job s behind) later last found in
    let back = finds_number (number + 1) (length fonts + 1) (FontsFrom finish job fonts (decl ∷ behind)) middle last found (omega (arith, count)) in
    subst P split before finish last found
    (back (one finish job fonts behind (sym count) last found
    (finds_number (length (fonts ++ font ∷ []) + 1) (number + 2) (FontsFrom finish job (fonts ++ font ∷ []) behind) later last found (omega (arith, count, length-append fonts (font ∷ []))) (subst Q grows f))))

pub fonts_stop : (job : Job) (shelf middle later : ShelfState) (fonts : List Font) (number : ℕ) (decl : FontDecl) (left behind : List FontDecl) (stop : Stop) → number ≡ length fonts → left ≡ decl ∷ behind
    → FontsLeft job shelf fonts left middle → FontStops number decl middle later stop → FontsStop job shelf later stop
fonts_stop job shelf middle later fonts number decl left behind stop count split before one = λ finish.
    let P : List FontDecl → Type 0 = λ l. FontsLeft job shelf fonts l middle in
    subst P split before finish later (Err stop)
    (finds_number (number + 1) (length fonts + 1) (FontsFrom finish job fonts (decl ∷ behind)) middle later (Err stop) (omega (arith, count)) (one finish job fonts behind (sym count)))

-- memory ran out behind a font that was read
pub fonts_lost : (job : Job) (shelf middle later : ShelfState) (fonts : List Font) (number : ℕ) (font : Font) (decl : FontDecl) (left behind : List FontDecl) → number ≡ length fonts → left ≡ decl ∷ behind → later.calls < 2 ^ 64
    → FontsLeft job shelf fonts left middle → FontGoesOn number decl middle later font → FontsStop job shelf later (stop_of NoMemory)
fonts_lost job shelf middle later fonts number font decl left behind count split fits before one = λ finish.
    fonts_more job shelf middle later fonts (fonts ++ font ∷ []) number font decl left behind count refl split before one finish later (Err (stop_of NoMemory))
    (finds_no_memory (length (fonts ++ font ∷ []) + 1) (FontsFrom finish job (fonts ++ font ∷ []) behind) later fits)

pub fonts_end : (job : Job) (shelf middle : ShelfState) (fonts stock : List Font) (left : List FontDecl) → left ≡ [] → stock ≡ fonts → FontsLeft job shelf fonts left middle → FontsGoOn job shelf middle stock
fonts_end job shelf middle fonts stock left none same before =
    let P : List FontDecl → Type 0 = λ l. FontsLeft job shelf fonts l middle in
    let Q : List Font → Type 0 = λ s. FontsLeft job shelf s [] middle in
    subst Q (sym same) (subst P none before)

-- the declarations from a place on
pub left_split : (items : List FontDecl) (place : ℕ) (decl : FontDecl) → place < length items → decl ≡ get_or items place decl → drop place items ≡ decl ∷ drop (place + 1) items
left_split items place decl inside is =
    let split : drop place items ≡ get_or items place decl ∷ drop (place + 1) items = rw (add-one, drop-cons items place decl) in
    split ∙ ap (λ d. d ∷ drop (place + 1) items) (sym is)

-- ---- fonts that all have the same file

-- so many fonts were given, and what the job comes to behind them it comes to
abbrev pub FontsGiven : Job → List ℕ → List Font → List FontDecl → Type 0
FontsGiven job bytes fonts left =
    (finish : Finish) (outcome : Outcome) → FontsFrom finish job fonts left (replicate (length left) bytes) outcome → FontsFrom finish job [] job.fonts (replicate (length job.fonts) bytes) outcome

pub given_none : (job : Job) (bytes : List ℕ) (fonts : List Font) (left : List FontDecl) → fonts ≡ [] → left ≡ job.fonts → FontsGiven job bytes fonts left
given_none job bytes fonts left none all =
    let P : List Font → Type 0 = λ f. FontsGiven job bytes f left in
    let Q : List FontDecl → Type 0 = λ l. FontsGiven job bytes [] l in
    subst P (sym none) (subst Q (sym all) (λ finish outcome d. d))

pub given_more : (job : Job) (bytes : List ℕ) (fonts grown : List Font) (font : Font) (decl : FontDecl) (left behind : List FontDecl) → grown ≡ fonts ++ font ∷ [] → left ≡ decl ∷ behind → IsFontRead decl bytes font
    → FontsGiven job bytes fonts left → FontsGiven job bytes grown behind
given_more job bytes fonts grown font decl left behind grows split read before =
    let P : List FontDecl → Type 0 = λ l. FontsGiven job bytes fonts l in
    let Q : List Font → Type 0 = λ s. FontsGiven job bytes s behind in
    subst Q (sym grows) (λ finish outcome d. subst P split before finish outcome (inr (font, read, d)))

pub given_stops : (job : Job) (bytes : List ℕ) (fonts : List Font) (number : ℕ) (decl : FontDecl) (left behind : List FontDecl) (fault : FontFault) → number ≡ length fonts → left ≡ decl ∷ behind → IfFault {X = Font} (Err fault) (IsFontFault decl bytes)
    → FontsGiven job bytes fonts left → RefusesFonts job bytes (font_answer number fault)
given_stops job bytes fonts number decl left behind no_memory count split is before = inr refl
given_stops job bytes fonts number decl left behind (At kind word) count split is before =
    let P : List FontDecl → Type 0 = λ l. FontsGiven job bytes fonts l in
    inl (λ finish. subst P split before finish (Refuses (font_fault number kind word)) (inl (record { kind = kind; word = word; fault = is; is = ap (λ n. Refuses (font_fault n kind word)) count })))

pub given_end : (job : Job) (bytes : List ℕ) (fonts stock : List Font) (left : List FontDecl) → left ≡ [] → stock ≡ fonts → FontsGiven job bytes fonts left → GivesFonts job bytes stock
given_end job bytes fonts stock left none same before =
    let P : List FontDecl → Type 0 = λ l. FontsGiven job bytes fonts l in
    let Q : List Font → Type 0 = λ s. FontsGiven job bytes s [] in
    λ finish. subst Q (sym same) (subst P none before) finish (finish job stock) refl

-- ---- the job

pub job_refused : (finish : Finish) (bytes : List ℕ) (shelf : ShelfState) (answer : Answer) → shelf.calls < 2 ^ 64 → IsJobRefusal bytes (Refuses answer) ⊎ (answer ≡ NoMemory) → Finds 1 (JobFrom finish bytes) shelf shelf (Err (stop_of answer))
job_refused finish bytes shelf answer fits (inl refusal) = finds_concluded 1 (JobFrom finish bytes) (Refuses answer) shelf (Err (stop_of answer)) fits (inl refusal) refl
job_refused finish bytes shelf answer fits (inr e) =
    let P : Answer → Type 0 = λ a. Finds 1 (JobFrom finish bytes) shelf shelf (Err (stop_of a)) in
    subst P (sym e) (finds_no_memory 1 (JobFrom finish bytes) shelf fits)

pub job_goes_on : (finish : Finish) (bytes : List ℕ) (job : Job) (shelf later : ShelfState) (found : Result Made Stop) → IsJobOf bytes (said_of job) → Finds 1 (FontsFrom finish job [] job.fonts) shelf later found → Finds 1 (JobFrom finish bytes) shelf later found
job_goes_on finish bytes job shelf later found is f =
    finds_within 1 (FontsFrom finish job [] job.fonts) (JobFrom finish bytes) shelf later found (λ r o d. inr (job, is, d)) f

-- what a step answers, as what is found
pub made_found : (outcome : Outcome) (made : Made) → Makes outcome (Ok made) → Concludes outcome (Ok made)
made_found (Wants name) made m = m
made_found (Refuses fault) made m = m
made_found (Gives output) made m = m

pub fault_found : (outcome : Outcome) (answer : Answer) → Makes outcome (Err answer) → Concludes outcome (Err (stop_of answer))
fault_found (Wants name) answer m = m
fault_found (Refuses fault) answer m = ap stop_of m
fault_found (Gives output) answer m = m

-- the job and its fonts were read, and this was made of them
pub job_made : (finish : Finish) (job : Job) (stock : List Font) (first : ℕ) (shelf : ShelfState) (made : Made) → shelf.calls < 2 ^ 64 → Settles (finish job stock) (Ok made) → Finds first (FontsFrom finish job stock []) shelf shelf (Ok made)
job_made finish job stock first shelf made fits (inl makes) = finds_concluded first (FontsFrom finish job stock []) (finish job stock) shelf (Ok made) fits refl (made_found (finish job stock) made makes)
job_made finish job stock first shelf made fits (inr e) = absurd cc

pub job_unmade : (finish : Finish) (job : Job) (stock : List Font) (first : ℕ) (shelf : ShelfState) (answer : Answer) → shelf.calls < 2 ^ 64 → Settles (finish job stock) (Err answer) → Finds first (FontsFrom finish job stock []) shelf shelf (Err (stop_of answer))
job_unmade finish job stock first shelf answer fits (inl makes) = finds_concluded first (FontsFrom finish job stock []) (finish job stock) shelf (Err (stop_of answer)) fits refl (fault_found (finish job stock) answer makes)
job_unmade finish job stock first shelf answer fits (inr e) =
    let same : answer ≡ NoMemory = ap error_of e in
    let P : Answer → Type 0 = λ a. Finds first (FontsFrom finish job stock []) shelf shelf (Err (stop_of a)) in
    subst P (sym same) (finds_no_memory first (FontsFrom finish job stock []) shelf fits)

-- ---- the command

-- a file that couldn't be read, of a document that wants it first
pub file_missed : (finish : Finish) (name : List ℕ) (shelf later : ShelfState) (stop : Stop) → IsAsked shelf later → Misses name 0 shelf later stop → Finds 0 (FilesFrom finish name) shelf later (Err stop)
file_missed finish name shelf later stop asked misses = finds_missed 0 (FilesFrom finish name) name shelf later stop refl asked.stays asked.called misses

pub file_goes_on : (finish : Finish) (name bytes : List ℕ) (shelf middle later : ShelfState) (found : Result Made Stop) → WasRead shelf.files name bytes → IsAsked shelf middle → Finds 1 (JobFrom finish bytes) middle later found → Finds 0 (FilesFrom finish name) shelf later found
file_goes_on finish name bytes shelf middle later found read asked f = finds_behind 0 (FilesFrom finish name) name bytes shelf middle later found refl read asked.stays asked.called f

-- what is found of a command by its kind
pub kind_found : (kind : CommandKind) (cmd : Cmd) (shelf later : ShelfState) (found : Result Made Stop) → cmd.command ≡ kind → Finds 0 (KindFrom kind cmd) shelf later found → Finds 0 (KindFrom cmd.command cmd) shelf later found
kind_found kind cmd shelf later found is f =
    let P : CommandKind → Type 0 = λ k. Finds 0 (KindFrom k cmd) shelf later found in
    subst P (sym is) f

-- ---- the words

pub words_refused : (command : Option Cmd) (shelf : ShelfState) → shelf.calls < 2 ^ 64 → command ≡ None → Finds 0 (DocOf command) shelf shelf (Err (stop_of BadWords))
words_refused command shelf fits e =
    let P : Option Cmd → Type 0 = λ o. Finds 0 (DocOf o) shelf shelf (Err (stop_of BadWords)) in
    subst P (sym e) (finds_concluded 0 (DocOf None) (Refuses BadWords) shelf (Err (stop_of BadWords)) fits refl refl)

pub words_go_on : (command : Option Cmd) (cmd : Cmd) (shelf later : ShelfState) (found : Result Made Stop) → command ≡ Some cmd → Finds 0 (KindFrom cmd.command cmd) shelf later found → Finds 0 (DocOf command) shelf later found
words_go_on command cmd shelf later found e f =
    let P : Option Cmd → Type 0 = λ o. Finds 0 (DocOf o) shelf later found in
    subst P (sym e) f
