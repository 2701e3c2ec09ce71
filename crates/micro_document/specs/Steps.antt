-- What a step of a run leaves to be found, and what it stops at.
--     FontGoesOn, FontStops      one font was read, or none
--     FontsGoOn, FontsStop       all fonts of a job were read, or not all
--     GivesFonts, RefusesFonts   the fonts of a job that all have the same file
use Rattle.std.specs.Prelude.{◌≡◌, ℕ, ◌+◌, List, [], ◌∷◌, ◌++◌, length, replicate, ◌⊎◌, Err}
use Rattle.font_stock.specs.declared.font.Font.{Font}
use Rattle.job_text.specs.declared.font_decl.FontDecl.{FontDecl}
use Rattle.job_text.specs.declared.job.Job.{Job}
use Rattle.outside_io.specs.States.{ShelfState}
use Rattle.micro_document.specs.declared.stop.Stop.{Stop}
use Rattle.micro_texts.specs.declared.answer.Answer.{Answer}
use Rattle.micro_texts.specs.declared.answer.Answer.TheVariants.{NoMemory}
use Rattle.micro_document.specs.Document.{Finish, FontsFrom}
use Rattle.micro_document.specs.Finding.{Finds, GoesOn}
use Rattle.micro_document.specs.Outcome.Outcome.{Refuses}

-- font f is file f + 1
abbrev pub FontGoesOn : ℕ → FontDecl → ShelfState → ShelfState → Font → Type 0
FontGoesOn number decl shelf middle font =
    (finish : Finish) (job : Job) (stock : List Font) (decls : List FontDecl)
    → length stock ≡ number
    → GoesOn (number + 1) (FontsFrom finish job stock (decl ∷ decls)) shelf
    (number + 2) (FontsFrom finish job (stock ++ font ∷ []) decls) middle

abbrev pub FontStops : ℕ → FontDecl → ShelfState → ShelfState → Stop → Type 0
FontStops number decl shelf later stop =
    (finish : Finish) (job : Job) (stock : List Font) (decls : List FontDecl)
    → length stock ≡ number
    → Finds (number + 1) (FontsFrom finish job stock (decl ∷ decls)) shelf later (Err stop)

abbrev pub FontsGoOn : Job → ShelfState → ShelfState → List Font → Type 0
FontsGoOn job shelf middle stock =
    (finish : Finish)
    → GoesOn 1 (FontsFrom finish job [] job.fonts) shelf
    (length stock + 1) (FontsFrom finish job stock []) middle

abbrev pub FontsStop : Job → ShelfState → ShelfState → Stop → Type 0
FontsStop job shelf later stop =
    (finish : Finish) → Finds 1 (FontsFrom finish job [] job.fonts) shelf later (Err stop)

-- behind fonts that were given, the job comes to what it comes to with them
abbrev pub GivesFonts : Job → List ℕ → List Font → Type 0
GivesFonts job bytes stock =
    (finish : Finish)
    → FontsFrom finish job [] job.fonts (replicate (length job.fonts) bytes) (finish job stock)

abbrev pub RefusesFonts : Job → List ℕ → Answer → Type 0
RefusesFonts job bytes answer =
    ((finish : Finish)
    → FontsFrom finish job [] job.fonts (replicate (length job.fonts) bytes) (Refuses answer))
    ⊎ (answer ≡ NoMemory)
