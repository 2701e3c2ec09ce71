-- A file spells at most one job, or has one first fault, and not both.
use Rattle.std.proofs.Common.{◌≡◌, ℕ, List, Option, Some, None, Result, Ok, Err, ◌⊎◌, inl, inr, ⊎_elim, refl, sym, ap, ◌∙◌}
use Rattle.std.specs.Prelude.{MatchOption}
use Rattle.job_lex.specs.declared.token.Tok.{Tok}
use Rattle.job_lex.specs.declared.fault.LexFaultKind.{LexFaultKind}
use Rattle.job_lex.specs.Tokens.{AreTokens, HasTokens, IsFirstFault}
use Rattle.job_lex.proofs.Once.{AreTokens-once, tokens_or_fault, first_fault-once}
use Rattle.job_reading.specs.declared.token.Token.{Token}
use Rattle.job_text.specs.declared.job.Job.{Job}
use Rattle.job_reading.specs.declared.fault.Fault.{Fault}
use Rattle.job_reading.specs.declared.fault.JobFault.{JobFault}
use Rattle.job_reading.specs.declared.fault.JobFault.TheVariants.{At, NoMemory}
use Rattle.job_reading.specs.declared.fault.JobFaultKind.{JobFaultKind}
use Rattle.job_reading.specs.Lexemes.{ends_job}
use Rattle.job_reading.specs.Reading.{Reading}
use Rattle.job_reading.specs.Repeats.{read_until}
use Rattle.job_reading.specs.GrammarTokens.{grammar_tokens}
use Rattle.job_reading.specs.Faults.{job_kind, IsTokenFault}
use Rattle.job_text.specs.Job.{State, start, job_step, job_of}
use Rattle.job_text.specs.Answers.{Said, said_by, IsJobOf, IsGrammarFault, IsFaultAt, HasJob, HasFault, IsAnswer, GivesJob, GivesFault}

-- what the code reads from the tokens of the file is what the definition reads from them
pub reads_job : (bytes source : List ℕ) (toks : List Tok) (read : List Token) (first : State) (outcome : Reading State) → source ≡ bytes → read ≡ grammar_tokens bytes toks → first ≡ start → read_until ends_job (job_step source) first read ≡ outcome → job_of bytes (grammar_tokens bytes toks) ≡ outcome
reads_job bytes source toks read first outcome same is begins reads =
    ap (λ (ts : List Token). job_of bytes ts) (sym is)
    ∙ ap (λ (s : State). read_until ends_job (job_step bytes) s read) (sym begins)
    ∙ ap (λ (b : List ℕ). read_until ends_job (job_step b) first read) (sym same)
    ∙ reads

-- two readings of one file are one
one_reading : (bytes : List ℕ) (toks others : List Tok) (a b : Reading State) → AreTokens bytes toks → AreTokens bytes others → job_of bytes (grammar_tokens bytes toks) ≡ a → job_of bytes (grammar_tokens bytes others) ≡ b → a ≡ b
one_reading bytes toks others a b one two reads_a reads_b = sym reads_a ∙ ap (λ (ts : List Tok). job_of bytes (grammar_tokens bytes ts)) (AreTokens-once bytes toks others one two) ∙ reads_b

-- two readings that are equal
abbrev ReadsTo : Reading State → Reading State → Type 0
ReadsTo a b = a ≡ b

-- the state that was read, or a given one at a fault
abbrev state_in : State → Reading State → State
state_in other (Ok read) = read.0
state_in other (Err fault) = other

same_state : (s t : State) (rest other : List Token) → ReadsTo (Ok (s, rest)) (Ok (t, other)) → s ≡ t
same_state s t rest other same = ap (state_in s) same

pub job_once : (bytes : List ℕ) (a b : Said) → IsJobOf bytes a → IsJobOf bytes b → a ≡ b
job_once bytes a b one two =
    sym one.is ∙ ap said_by (same_state _ _ _ _ (one_reading bytes _ _ _ _ one.are_tokens two.are_tokens one.reads two.reads)) ∙ two.is

job_or_grammar_fault : (bytes : List ℕ) (said : Said) (place : ℕ) (kind : JobFaultKind) → IsJobOf bytes said → IsGrammarFault bytes place kind → ⊥
job_or_grammar_fault bytes said place kind one two = let same = one_reading bytes _ _ _ _ one.are_tokens two.are_tokens one.reads two.reads in cc

pub job_no_fault : (bytes : List ℕ) (said : Said) (place : ℕ) (kind : JobFaultKind) → IsJobOf bytes said → IsFaultAt bytes place kind → ⊥
job_no_fault bytes said place kind job fault =
    ⊎_elim (λ token. tokens_or_fault _ _ _ _ _ job.are_tokens token.first.adjoin token.first.stop) (job_or_grammar_fault bytes said place kind job) fault

same_fault : (a b : Fault) → ReadsTo (Err a) (Err b) → a ≡ b
same_fault a b same = cc

token_once : (bytes : List ℕ) (place other : ℕ) (kind another : JobFaultKind) → IsTokenFault bytes place kind → IsTokenFault bytes other another → (place ≡ other) × (kind ≡ another)
token_once bytes place other kind another one two =
    let same = first_fault-once _ _ _ _ _ one.first two.first in
    (same.0, one.is ∙ ap job_kind same.1 ∙ sym two.is)

grammar_once : (bytes : List ℕ) (place other : ℕ) (kind another : JobFaultKind) → IsGrammarFault bytes place kind → IsGrammarFault bytes other another → (place ≡ other) × (kind ≡ another)
grammar_once bytes place other kind another one two =
    let same = same_fault _ _ (one_reading bytes _ _ _ _ one.are_tokens two.are_tokens one.reads two.reads) in
    (ap (λ (f : Fault). f.offset) same, ap (λ (f : Fault). f.kind) same)

pub fault_once : (bytes : List ℕ) (place other : ℕ) (kind another : JobFaultKind) → IsFaultAt bytes place kind → IsFaultAt bytes other another → (place ≡ other) × (kind ≡ another)
fault_once bytes place other kind another one two =
    ⊎_elim
    (λ token. ⊎_elim (token_once bytes place other kind another token) (λ grammar. absurd (tokens_or_fault _ _ _ _ _ grammar.are_tokens token.first.adjoin token.first.stop)) two)
    (λ grammar. ⊎_elim (λ token. absurd (tokens_or_fault _ _ _ _ _ grammar.are_tokens token.first.adjoin token.first.stop)) (grammar_once bytes place other kind another grammar) two)
    one

-- a true answer is the one answer
pub exact_job : (bytes : List ℕ) (result : Result Job JobFault) (said : Said) → IsAnswer bytes result → IsJobOf bytes said → GivesJob result said
exact_job bytes (Ok job) said answer is = job_once bytes _ _ answer is
exact_job bytes (Err (At place kind)) said answer is = job_no_fault bytes said place kind is answer
exact_job bytes (Err NoMemory) said answer is = tt

pub exact_fault : (bytes : List ℕ) (result : Result Job JobFault) (place : ℕ) (kind : JobFaultKind) → IsAnswer bytes result → IsFaultAt bytes place kind → GivesFault result place kind
exact_fault bytes (Ok job) place kind answer is = job_no_fault bytes _ place kind answer is
exact_fault bytes (Err (At offset found)) place kind answer is = fault_once bytes offset place found kind answer is
exact_fault bytes (Err NoMemory) place kind answer is = tt

-- what a whole file is read to
outcome : (bytes : List ℕ) (toks : List Tok) → AreTokens bytes toks → (read : Reading State) → job_of bytes (grammar_tokens bytes toks) ≡ read → HasJob bytes ⊎ HasFault bytes
outcome bytes toks are (Ok x) is = inl (record { said = said_by x.0; is = record { toks = toks; state = x.0; rest = x.1; are_tokens = are; reads = is; is = refl } })
outcome bytes toks are (Err fault) is = inr (record { place = fault.offset; kind = fault.kind; is = inr (record { toks = toks; are_tokens = are; reads = is }) })

-- a file with tokens spells a job or breaks the grammar
with_tokens : (bytes : List ℕ) → HasTokens bytes → HasJob bytes ⊎ HasFault bytes
with_tokens bytes tokens = outcome bytes tokens.toks tokens.adjoin (job_of bytes (grammar_tokens bytes tokens.toks)) refl

without_tokens : (bytes : List ℕ) (place : ℕ) (kind : LexFaultKind) → IsFirstFault bytes place kind → HasJob bytes ⊎ HasFault bytes
without_tokens bytes place kind first = inr (record { place = place; kind = job_kind kind; is = inl (record { cause = kind; first = first; is = refl }) })

pub job_or_fault : (bytes : List ℕ) (found : Option (ℕ × LexFaultKind)) → MatchOption found (HasTokens bytes) (λ x. IsFirstFault bytes x.0 x.1) → HasJob bytes ⊎ HasFault bytes
job_or_fault bytes None tokens = with_tokens bytes tokens
job_or_fault bytes (Some x) first = without_tokens bytes x.0 x.1 first
