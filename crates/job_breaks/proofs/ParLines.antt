-- The lines of paragraphs, one after another.
--     line-told               what a paragraph is broken by makes its line
--     tells-line, tells-fault what the answer of one is
--     behind                  lines that are told, and those to come
--     next-line               one line more is told
--     tells-lines             the fault of a paragraph is the answer of all
--     all-lines               when no paragraph is left the lines are all
use Rattle.std.proofs.Common.{◌≡◌, inl, inr, ℕ, ◌+◌, ◌<◌, refl, ap, sym, ◌∙◌, subst, List, [], ◌∷◌, ◌++◌, append_assoc, append-nil, add-one, drop-cons, drop, get_or, length, Result, Ok, Err}
use Rattle.std.specs.Prelude.{IfOk}
use Rattle.font_stock.specs.declared.font.Font.{Font}
use Rattle.micro_num.specs.declared.memory.NoMemory.{NoMemory as WantOfMemory}
use Rattle.micro_num.specs.declared.paragraph.Par.{Par}
use Rattle.micro_num.specs.declared.params.Params.{Params}
use Rattle.micro_num.specs.declared.shape.ShapeLine.{ShapeLine}
use Rattle.micro_num.specs.declared.tables.Tables.{Tables}
use Rattle.hlist.specs.declared.item.HList.{HList}
use Rattle.hlist.specs.declared.item.Item.{Item}
use Rattle.hlist_build.specs.Paragraph.{list_of}
use Rattle.hlist_build.specs.declared.fault.ParFault.{ParFault}
use Rattle.hlist_build.specs.declared.fault.ParFault.TheVariants.{MissingChar, LigTooLong, TooManyItems, MixedExpansion, OutOfRange, NoMemory as no_memory}
use Rattle.hlist_hyph.specs.Hyphenated.{Places}
use Rattle.micro_texts.specs.Breaks.{breaks_line}
use Rattle.para_workers.specs.SetPar.{paragraph_of}
use Rattle.para_workers.specs.declared.fault.ParAt.{ParAt}
use Rattle.para_workers.specs.declared.fault.SetFault.{SetFault}
use Rattle.para_workers.specs.declared.fault.SetFault.TheVariants.{Par as par_fault, NoMemory}
use Rattle.para_workers.proofs.LineTurns.{Gives}
use Rattle.para_workers.proofs.WholePages.{list-is}
use Rattle.paragraph_breaks.specs.Outcome.{IsBroken}
use Rattle.paragraph_breaks.specs.Passes.{Paragraph, given_by}
use Rattle.paragraph_breaks.specs.declared.broken.Broken.{Broken}
use Rattle.job_breaks.specs.Lines.{TellsLine, TellsLines, line_of_built, line_of_list, line_of_par, line_of_taken, lines_from, lines_with, set_fault}

-- ---- one paragraph

line-is : (number : ℕ) (p : Paragraph) (b : Broken) → IsBroken p b → breaks_line number (given_by b) ≡ line_of_list number p
unfolding line_of_list
line-is number p b is = sym (ap (line_of_taken number) is.exact.taken)

-- the shape is lent as a slice
pub line-told : (number : ℕ) (par : Par) (tables : Tables) (places : Places) (stock : List Font) (items : List Item) (shape : List ShapeLine) (b : Broken)
    (result : Result (List ℕ) WantOfMemory) → shape ≡ par.shape
    → IsBroken (record { items = items; params = par.params; shape = shape; tables = tables; places = places; stock = stock }) b
    → IfOk result (λ line. line ≡ breaks_line number (given_by b))
    → IfOk result (λ line. line ≡ line_of_list number (paragraph_of par tables places stock items))
line-told number par tables places stock items shape b (Err fault) own is line_is = tt
line-told number par tables places stock items shape b (Ok line) own is line_is =
    let with_shape : List ShapeLine → Paragraph
    = λ s. record { items = items; params = par.params; shape = s; tables = tables; places = places; stock = stock } in
    line_is ∙ line-is number (with_shape shape) b is ∙ ap (λ s. line_of_list number (with_shape s)) own

pub tells-line : (tables : Tables) (places : Params → Places) (stock : List Font) (number : ℕ) (par : Par) (list : HList) (line : List ℕ)
    → Gives HList (Ok list) (list_of par tables stock)
    → line ≡ line_of_list number (paragraph_of par tables (places par.params) stock list.items)
    → line_of_par tables places stock number par ≡ Ok line
unfolding line_of_par
tells-line tables places stock number par list line built is =
    ap (line_of_built number par tables (places par.params) stock) (list-is list (list_of par tables stock) built)
    ∙ ap (λ l. Ok l) (sym is)

fault-is : (tables : Tables) (places : Params → Places) (stock : List Font) (number : ℕ) (par : Par) (fault : ParFault)
    → Err fault ≡ list_of par tables stock → line_of_par tables places stock number par ≡ Err fault
unfolding line_of_par
fault-is tables places stock number par fault is = ap (line_of_built number par tables (places par.params) stock) (sym is)

pub tells-fault : (tables : Tables) (places : Params → Places) (stock : List Font) (number : ℕ) (par : Par) (fault : ParFault) (own : SetFault)
    → own ≡ set_fault number fault → Gives HList (Err fault) (list_of par tables stock)
    → TellsLine number (line_of_par tables places stock number par) (Err own)
tells-fault tables places stock number par fault own is answer =
    subst (λ (f : SetFault). TellsLine number (line_of_par tables places stock number par) (Err f)) (sym is) (each fault answer)
  where
    each : (f : ParFault) → Gives HList (Err f) (list_of par tables stock)
        → TellsLine number (line_of_par tables places stock number par) (Err (set_fault number f))
    each (MissingChar offset) (inl same) = (refl, fault-is tables places stock number par (MissingChar offset) same)
    each (MissingChar offset) (inr none) = absurd (cc)
    each (LigTooLong offset) (inl same) = (refl, fault-is tables places stock number par (LigTooLong offset) same)
    each (LigTooLong offset) (inr none) = absurd (cc)
    each TooManyItems (inl same) = (refl, fault-is tables places stock number par TooManyItems same)
    each TooManyItems (inr none) = absurd (cc)
    each (MixedExpansion font) (inl same) = (refl, fault-is tables places stock number par (MixedExpansion font) same)
    each (MixedExpansion font) (inr none) = absurd (cc)
    each (OutOfRange line) (inl same) = (refl, fault-is tables places stock number par (OutOfRange line) same)
    each (OutOfRange line) (inr none) = absurd (cc)
    each no_memory answers = tt

-- ---- one after another

abbrev pub behind : List (List ℕ) → Result (List (List ℕ)) ParAt → Result (List (List ℕ)) ParAt
behind done (Err at) = Err at
behind done (Ok lines) = Ok (done ++ lines)

pub behind-none : (rest : Result (List (List ℕ)) ParAt) → behind [] rest ≡ rest
behind-none (Err at) = refl
behind-none (Ok lines) = refl

behind-next : (done : List (List ℕ)) (line : List ℕ) (number : ℕ) (rest : Result (List (List ℕ)) ParAt)
    → behind done (lines_with number (Ok line) rest) ≡ behind (done ++ line ∷ []) rest
behind-next done line number (Err at) = refl
behind-next done line number (Ok lines) = ap (λ ls. Ok ls) (sym (append_assoc done (line ∷ []) lines))

-- the paragraphs from a place on
pub next-par : (pars : List Par) (place : ℕ) (par : Par) → place < length pars → par ≡ get_or pars place par
    → drop place pars ≡ par ∷ drop (place + 1) pars
next-par pars place par inside is =
    let split : drop place pars ≡ get_or pars place par ∷ drop (place + 1) pars = rw (add-one, drop-cons pars place par) in
    split ∙ ap (λ p. p ∷ drop (place + 1) pars) (sym is)

-- the number of the next paragraph is that at which the lines go on
pub next-line : (tables : Tables) (places : Params → Places) (stock : List Font) (number given : ℕ) (par : Par) (left rest : List Par)
    (done : List (List ℕ)) (line : List ℕ) (whole : Result (List (List ℕ)) ParAt) → left ≡ par ∷ rest → given ≡ number
    → behind done (lines_from tables places stock number left) ≡ whole
    → line_of_par tables places stock given par ≡ Ok line
    → behind (done ++ line ∷ []) (lines_from tables places stock (number + 1) rest) ≡ whole
unfolding lines_from
next-line tables places stock number given par left rest done line whole front same all is =
    sym (behind-next done line number (lines_from tables places stock (number + 1) rest))
    ∙ ap (λ one. behind done (lines_with number one (lines_from tables places stock (number + 1) rest)))
    (sym is ∙ ap (λ n. line_of_par tables places stock n par) same)
    ∙ ap (λ ps. behind done (lines_from tables places stock number ps)) (sym front)
    ∙ all

fault-line : (tables : Tables) (places : Params → Places) (stock : List Font) (number : ℕ) (par : Par) (left rest : List Par)
    (done : List (List ℕ)) (fault : ParFault) (whole : Result (List (List ℕ)) ParAt) → left ≡ par ∷ rest
    → behind done (lines_from tables places stock number left) ≡ whole
    → line_of_par tables places stock number par ≡ Err fault → whole ≡ Err (record { paragraph = number; fault = fault })
unfolding lines_from
fault-line tables places stock number par left rest done fault whole front all is =
    sym all
    ∙ ap (λ ps. behind done (lines_from tables places stock number ps)) front
    ∙ ap (λ one. behind done (lines_with number one (lines_from tables places stock (number + 1) rest))) is

-- a fault of one is the answer of all
pub tells-lines : (tables : Tables) (places : Params → Places) (stock : List Font) (number given : ℕ) (par : Par) (left rest : List Par)
    (done : List (List ℕ)) (whole : Result (List (List ℕ)) ParAt) (fault : SetFault) → left ≡ par ∷ rest → given ≡ number
    → behind done (lines_from tables places stock number left) ≡ whole
    → TellsLine given (line_of_par tables places stock given par) (Err fault) → TellsLines whole (Err fault)
tells-lines tables places stock number given par left rest done whole (par_fault at) front same all answer =
    fault-line tables places stock number par left rest done at.fault whole front all
    (ap (λ n. line_of_par tables places stock n par) (sym same) ∙ answer.1)
    ∙ (λ i. Err (record { paragraph = sym (answer.0 ∙ same) i; fault = at.fault }))
tells-lines tables places stock number given par left rest done whole NoMemory front same all answer = tt

pub all-lines : (tables : Tables) (places : Params → Places) (stock : List Font) (number : ℕ) (left : List Par)
    (done : List (List ℕ)) (whole : Result (List (List ℕ)) ParAt) → left ≡ []
    → behind done (lines_from tables places stock number left) ≡ whole → whole ≡ Ok done
unfolding lines_from
all-lines tables places stock number left done whole none all =
    sym all ∙ ap (λ ps. behind done (lines_from tables places stock number ps)) none ∙ ap (λ ls. Ok ls) (append-nil done)
