-- The outcome that computes is an answer of the run, so it is the answer.
use Rattle.std.proofs.Common.{◌≡◌, ℕ, zero, suc, ◌+◌, ◌-◌, ◌*◌, ◌<◌, ◌≤◌, ◌⊎◌, Bool, true, false, cond, ltb, List, [], ◌∷◌, ◌++◌, length, get_or, refl, ap, sym, subst, ◌∙◌, inl, inr, append_assoc, append-nil, below_more, arith}
use Rattle.std.specs.Prelude.{Option, Some, None, Result, Ok, Err, option_map}
use Rattle.std.proofs.lemmas.Bool.{ltb-true}
use Rattle.std.proofs.lemmas.Bool.Decides.{nat_tests}
use Rattle.tfm_read.specs.Ranges.{exists_at}
use Rattle.tfm_read.specs.declared.character.CharInfo.{CharInfo}
use Rattle.tfm_read.specs.declared.tfm.Tfm.{Tfm}
use Rattle.lig_kern.specs.Outcome.{missing_from, rewritten, enough, by_end, by_missing, outcome}
use Rattle.lig_kern.specs.Rewriting.{move_at, Reached, begins, goes_on, EndsWithin, GoesPast}
use Rattle.lig_kern.specs.Running.{start_of, limit_of, AllExist, IsFirstMissing, IsRun, Answers}
use Rattle.lig_kern.specs.Symbols.{glyphs_of}
use Rattle.lig_kern.specs.declared.fault.LigFault.{LigFault}
use Rattle.lig_kern.specs.declared.fault.LigFault.TheVariants.{TooManySteps, Missing, NoMemory}
use Rattle.lig_kern.specs.declared.glyph.Glyph.{Glyph}
use Rattle.lig_kern.specs.declared.symbols.Symbol.{Symbol}
use Rattle.lig_kern.proofs.AnswerLemmas.{none-missing, first-unique, only-glyphs, only-past}
use Rattle.lig_kern.proofs.MoveLemmas.{move_at-grows}
use Rattle.lig_kern.proofs.SymbolLemmas.{glyphs_of-append}

-- ---- the first missing code

-- what the search from `at` on finds, where the codes before it exist
abbrev Found : List CharInfo → List ℕ → Option ℕ → Type 0
Found chars codes None = AllExist chars codes
Found chars codes (Some index) = IsFirstMissing chars codes index

abbrev ExistBelow : List CharInfo → List ℕ → ℕ → Type 0
ExistBelow chars codes at = (k : ℕ) → k < at → exists_at chars (get_or codes k 0) ≡ true

-- the rest of the codes, by the codes at its places
pub record IsRest (codes : List ℕ) (at : ℕ) (rest : List ℕ) : Type 0 where
  pub size : length codes ≡ at + length rest
  pub same : (k : ℕ) → get_or rest k 0 ≡ get_or codes (at + k) 0

rest-tail : (codes : List ℕ) (at code : ℕ) (rest : List ℕ) → IsRest codes at (code ∷ rest) → IsRest codes (at + 1) rest
rest-tail codes at code rest is = record {
  size = let whole = is.size in omega (arith, whole);
  same = λ k. is.same (suc k) ∙ ap (λ (n : ℕ). get_or codes n 0) (omega arith);
}

rest-head : (codes : List ℕ) (at code : ℕ) (rest : List ℕ) → IsRest codes at (code ∷ rest) → code ≡ get_or codes at 0
rest-head codes at code rest is = is.same 0 ∙ ap (λ (n : ℕ). get_or codes n 0) (omega arith)

found-here : (chars : List CharInfo) (codes : List ℕ) (at code : ℕ) (rest : List ℕ) (there : Bool) → exists_at chars code ≡ there
    → IsRest codes at (code ∷ rest) → ExistBelow chars codes at
    → (ExistBelow chars codes (at + 1) → Found chars codes (missing_from chars (at + 1) rest))
    → Found chars codes (cond there (missing_from chars (at + 1) rest) (Some at))
found-here chars codes at code rest true e is below later =
    later (below_more _ at below (ap (exists_at chars) (sym (rest-head codes at code rest is)) ∙ e))
found-here chars codes at code rest false e is below later =
    let whole = is.size in
    record {
      within = omega (arith, whole);
      missing = ap (exists_at chars) (sym (rest-head codes at code rest is)) ∙ e;
      before = below;
    }

missing-found : (chars : List CharInfo) (codes : List ℕ) (at : ℕ) (rest : List ℕ) → IsRest codes at rest
    → ExistBelow chars codes at → Found chars codes (missing_from chars at rest)
unfolding missing_from
missing-found chars codes at [] is below =
    let whole = is.size in
    λ k lt. below k (omega (arith, whole))
missing-found chars codes at (code ∷ rest) is below =
    found-here chars codes at code rest (exists_at chars code) refl is below
    (λ more. missing-found chars codes (at + 1) rest (rest-tail codes at code rest is) more)

found : (chars : List CharInfo) (codes : List ℕ) → Found chars codes (missing_from chars 0 codes)
found chars codes =
    missing-found chars codes 0 codes
    (record { size = omega arith; same = λ k. ap (λ (n : ℕ). get_or codes n 0) (omega arith) })
    (λ k lt. absurd (omega arith))

-- ---- the rewriting

-- what the rewriting of what is ahead says of the whole list, with what is before it
abbrev Tells : Tfm → List Symbol → ℕ → List Symbol → Option (List Glyph) → Type 0
Tells tfm start limit before None = GoesPast tfm start limit
Tells tfm start limit before (Some glyphs) = EndsWithin tfm start limit (glyphs_of before ++ glyphs)

tells-end : (tfm : Tfm) (start : List Symbol) (limit acted : ℕ) (before : List Symbol) → acted ≤ limit
    → Reached tfm start acted before [] → Tells tfm start limit before (Some [])
tells-end tfm start limit acted before within r =
    record { acted = acted; symbols = before; ends = r; within = within; gives = sym (append-nil (glyphs_of before)) }

tells-more : (tfm : Tfm) (start : List Symbol) (limit : ℕ) (before passed : List Symbol) (end : Option (List Glyph))
    → Tells tfm start limit (before ++ passed) end
    → Tells tfm start limit before (option_map (λ glyphs. glyphs_of passed ++ glyphs) end)
tells-more tfm start limit before passed None tells = tells
tells-more tfm start limit before passed (Some glyphs) tells =
    let P : List Glyph → Type 0 = EndsWithin tfm start limit in
    subst P
    (ap (λ (l : List Glyph). l ++ glyphs) (glyphs_of-append before passed)
    ∙ append_assoc (glyphs_of before) (glyphs_of passed) glyphs)
    tells

tells-step : (tfm : Tfm) (start : List Symbol) (limit acted left : ℕ) (before : List Symbol) (current : Symbol) (rest : List Symbol)
    (end : Option (List Glyph)) (past : Bool) → ltb left (move_at tfm current rest).acts ≡ past → acted + left ≡ limit
    → Reached tfm start acted before (current ∷ rest)
    → ((move_at tfm current rest).acts ≤ left → Tells tfm start limit (before ++ (move_at tfm current rest).passed) end)
    → Tells tfm start limit before (elim past as (λ _. Option (List Glyph)) [
      | true ↦ None
      | false ↦ option_map (λ glyphs. glyphs_of (move_at tfm current rest).passed ++ glyphs) end
    ])
tells-step tfm start limit acted left before current rest end true e sum r later =
    let move = move_at tfm current rest in
    let more = ltb-true _ _ e in
    record {
      acted = acted + move.acts;
      before = before ++ move.passed;
      ahead = move.ahead;
      comes = goes_on acted before current rest r;
      past = omega (arith, more, sum);
    }
tells-step tfm start limit acted left before current rest end false e sum r later =
    let few : (move_at tfm current rest).acts ≤ left = grind (arith, nat_tests) in
    tells-more tfm start limit before (move_at tfm current rest).passed end (later few)

tells : (steps : ℕ) (tfm : Tfm) (start : List Symbol) (limit acted left : ℕ) (before ahead : List Symbol)
    → length ahead + 2 * left < steps → acted + left ≡ limit → Reached tfm start acted before ahead
    → Tells tfm start limit before (rewritten steps tfm left ahead)
unfolding rewritten
tells zero tfm start limit acted left before ahead enough sum r = absurd (omega arith)
tells (suc steps) tfm start limit acted left before [] enough sum r =
    tells-end tfm start limit acted before (omega arith) r
tells (suc steps) tfm start limit acted left before (current ∷ rest) enough sum r =
    let move = move_at tfm current rest in
    let size = (move_at-grows tfm current rest).size in
    tells-step tfm start limit acted left before current rest
    (rewritten steps tfm (left - move.acts) move.ahead)
    (ltb left move.acts) refl sum r
    (λ few.
    tells steps tfm start limit (acted + move.acts) (left - move.acts) (before ++ move.passed) move.ahead
    (omega (arith, enough, size, few)) (omega (arith, sum, few)) (goes_on acted before current rest r))

-- ---- the whole run

ended : (tfm : Tfm) (codes : List ℕ) (left right : Bool) (end : Option (List Glyph)) → AllExist tfm.chars codes
    → Tells tfm (start_of tfm codes left right) (limit_of codes) [] end → Answers tfm codes left right (by_end end)
ended tfm codes left right None exist tells = record { exist = exist; past = tells }
ended tfm codes left right (Some glyphs) exist tells = record { exist = exist; ends = tells }

answered : (tfm : Tfm) (codes : List ℕ) (left right : Bool) (missing : Option ℕ) (end : Option (List Glyph))
    → Found tfm.chars codes missing → Tells tfm (start_of tfm codes left right) (limit_of codes) [] end
    → Answers tfm codes left right (by_missing missing end)
answered tfm codes left right None end found tells = ended tfm codes left right end found tells
answered tfm codes left right (Some index) end found tells = found

pub outcome-answers : (tfm : Tfm) (codes : List ℕ) (left right : Bool) → Answers tfm codes left right (outcome tfm codes left right)
unfolding outcome enough
outcome-answers tfm codes left right =
    let start = start_of tfm codes left right in
    answered tfm codes left right (missing_from tfm.chars 0 codes) _ (found tfm.chars codes)
    (tells _ tfm start (limit_of codes) 0 (limit_of codes) [] start (omega arith) (omega arith) begins)

-- the outcome isn't want of memory
abbrev Sure : Result (List Glyph) LigFault → Type 0
Sure (Ok glyphs) = Unit {0}
Sure (Err TooManySteps) = Unit {0}
Sure (Err (Missing index)) = Unit {0}
Sure (Err NoMemory) = ⊥

by_missing-sure : (missing : Option ℕ) (end : Option (List Glyph)) → Sure (by_missing missing end)
by_missing-sure (Some index) end = tt
by_missing-sure None None = tt
by_missing-sure None (Some glyphs) = tt

outcome-sure : (tfm : Tfm) (codes : List ℕ) (left right : Bool) → Sure (outcome tfm codes left right)
unfolding outcome
outcome-sure tfm codes left right = by_missing-sure (missing_from tfm.chars 0 codes) _

missing-only : (tfm : Tfm) (codes : List ℕ) (left right : Bool) (result : Result (List Glyph) LigFault) (index : ℕ)
    → Answers tfm codes left right result → IsFirstMissing tfm.chars codes index
    → (result ≡ Err (Missing index)) ⊎ (result ≡ Err NoMemory)
missing-only tfm codes left right (Ok glyphs) index answer first =
    absurd (none-missing tfm.chars codes index answer.exist first)
missing-only tfm codes left right (Err TooManySteps) index answer first =
    absurd (none-missing tfm.chars codes index answer.exist first)
missing-only tfm codes left right (Err (Missing other)) index answer first =
    inl (ap (λ (i : ℕ). Err (Missing i)) (first-unique tfm.chars codes other index answer first))
missing-only tfm codes left right (Err NoMemory) index answer first = inr refl

-- an answer is any other answer that isn't want of memory, unless it is that
same-answer : (tfm : Tfm) (codes : List ℕ) (left right : Bool) (result sure : Result (List Glyph) LigFault)
    → Answers tfm codes left right result → Answers tfm codes left right sure → Sure sure
    → (result ≡ sure) ⊎ (result ≡ Err NoMemory)
same-answer tfm codes left right result (Ok glyphs) answer other is =
    only-glyphs tfm codes left right result answer glyphs other
same-answer tfm codes left right result (Err TooManySteps) answer other is =
    only-past tfm codes left right result answer other
same-answer tfm codes left right result (Err (Missing index)) answer other is =
    missing-only tfm codes left right result index answer other
same-answer tfm codes left right result (Err NoMemory) answer other is = absurd is

pub is-outcome : (tfm : Tfm) (codes : List ℕ) (left right : Bool) (result : Result (List Glyph) LigFault)
    → Answers tfm codes left right result
    → (result ≡ outcome tfm codes left right) ⊎ (result ≡ Err NoMemory)
is-outcome tfm codes left right result answer =
    same-answer tfm codes left right result (outcome tfm codes left right) answer
    (outcome-answers tfm codes left right) (outcome-sure tfm codes left right)

-- a run that comes to its end is the outcome
sure-ok : (result : Result (List Glyph) LigFault) (glyphs : List Glyph) → Sure result → (result ≡ Ok glyphs) ⊎ (result ≡ Err NoMemory)
    → result ≡ Ok glyphs
sure-ok result glyphs is (inl e) = e
sure-ok result glyphs is (inr e) = absurd (subst Sure e is)

pub run-outcome : (tfm : Tfm) (codes : List ℕ) (left right : Bool) (glyphs : List Glyph) → IsRun tfm codes left right glyphs
    → outcome tfm codes left right ≡ Ok glyphs
run-outcome tfm codes left right glyphs run =
    sure-ok _ glyphs (outcome-sure tfm codes left right)
    (only-glyphs tfm codes left right _ (outcome-answers tfm codes left right) glyphs run)
