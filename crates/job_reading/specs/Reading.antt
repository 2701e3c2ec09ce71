-- What a rule of the grammar reads at the front of a list of tokens: a value and the tokens behind it,
-- or a fault. A rule is a function on lists of tokens; it is also given the place of the end of the file. The
-- rules are the job language's own, after TeX: The Program, part 26.
use Rattle.std.specs.Prelude.{◌≡◌, ℕ, ◌≤◌, List, [], ◌∷◌, length, Result, Ok, Err, if◌then◌else◌}
use Rattle.job_reading.specs.declared.token.Token.{Token}
use Rattle.job_reading.specs.declared.fault.JobFaultKind.{JobFaultKind}
use Rattle.job_reading.specs.declared.fault.Fault.{Fault}
use Rattle.job_reading.specs.declared.fault.JobFault.{JobFault}
use Rattle.job_reading.specs.declared.fault.JobFault.TheVariants.{At, NoMemory}
use Rattle.job_reading.specs.declared.rest.Rest.{Rest}
use Rattle.job_reading.specs.Lexemes.{is_space, is_char}
use Rattle.job_reading.specs.Rest.{left}

-- a value and the tokens behind it, or a fault
abbrev pub Reading : Type 0 → Type 0
Reading A = Result (A × List Token) Fault

-- one rule after another; the first fault is the fault
infixl 10 ◌>>=◌
abbrev pub ◌>>=◌ : {A B : Type 0} → Result A Fault → (A → Result B Fault) → Result B Fault
(Ok x) >>= f = f x
(Err e) >>= f = Err e

-- the place of the token found, which is the end of the file where none is left
abbrev pub place : ℕ → List Token → ℕ
place end [] = end
place end (tok ∷ toks) = tok.from

abbrev pub fault : {A : Type 0} → JobFaultKind → ℕ → Result A Fault
fault kind at = Err (record { offset = at; kind = kind })

-- a Space at the front is passed over
abbrev pub skip_space : List Token → List Token
skip_space [] = []
skip_space (tok ∷ toks) = if is_space tok.lexeme then toks else tok ∷ toks

abbrev pub behind_sign : List Token → List Token → List Token
behind_sign toks [] = toks
behind_sign toks (tok ∷ behind) = if is_char tok.lexeme 61 then skip_space behind else toks

-- an optional Space, `=` and an optional Space, or nothing
abbrev pub equals : List Token → List Token
equals toks = behind_sign toks (skip_space toks)

-- What a call returned, seen by view, is what the rule reads.
abbrev pub Gives : {X Y : Type 0} → (X → Y) → Result X Fault → Result Y Fault → Type 0
Gives view (Ok x) reading = reading ≡ Ok (view x)
Gives view (Err e) reading = reading ≡ Err e

-- a job's fault is the fault that the rule gives; want of memory may come anywhere
abbrev pub IsFaultOf : {Y : Type 0} → JobFault → Result Y Fault → Type 0
IsFaultOf (At offset kind) reading = reading ≡ Err (record { offset = offset; kind = kind })
IsFaultOf NoMemory reading = Unit {0}

-- the same for a call that may also want memory
abbrev pub GivesOrMemory : {X Y : Type 0} → (X → Y) → Result X JobFault → Result Y Fault → Type 0
GivesOrMemory view (Ok x) reading = reading ≡ Ok (view x)
GivesOrMemory view (Err e) reading = IsFaultOf e reading

-- What a call returned that reads tokens is what the rule reads at them: the value, seen by view, and the tokens
-- behind it, which are no more than before.
abbrev pub Reads : {X Y : Type 0} → (X → Y) → Result (X × Rest) Fault → (List Token → Reading Y) → Rest → Type 0
Reads view (Ok x) rule rest = (rule (left rest) ≡ Ok (view x.0, left x.1)) × (length (left x.1) ≤ length (left rest))
Reads view (Err e) rule rest = rule (left rest) ≡ Err e

-- the same for a call that may also want memory
abbrev pub ReadsOrMemory : {X Y : Type 0} → (X → Y) → Result (X × Rest) JobFault → (List Token → Reading Y) → Rest → Type 0
ReadsOrMemory view (Ok x) rule rest = (rule (left rest) ≡ Ok (view x.0, left x.1)) × (length (left x.1) ≤ length (left rest))
ReadsOrMemory view (Err e) rule rest = IsFaultOf e (rule (left rest))

-- the same for calls that keep the value, here new, in what they are handed, and return the tokens alone
abbrev pub Changes : {Y : Type 0} → Y → Result Rest Fault → (List Token → Reading Y) → Rest → Type 0
Changes new (Ok behind) rule rest = (rule (left rest) ≡ Ok (new, left behind)) × (length (left behind) ≤ length (left rest))
Changes new (Err e) rule rest = rule (left rest) ≡ Err e

abbrev pub ChangesOrMemory : {Y : Type 0} → Y → Result Rest JobFault → (List Token → Reading Y) → Rest → Type 0
ChangesOrMemory new (Ok behind) rule rest = (rule (left rest) ≡ Ok (new, left behind)) × (length (left behind) ≤ length (left rest))
ChangesOrMemory new (Err e) rule rest = IsFaultOf e (rule (left rest))
