-- What `read_job` answers: the job, its first fault, or want of memory.
-- This is the crate's own.
use Rattle.std.specs.Prelude.{◌≡◌, ℕ, ◌⊎◌, List, Result, Ok, Err}
use Rattle.micro_num.specs.declared.paragraph.Par.{Par}
use Rattle.micro_num.specs.declared.tables.Tables.{Tables}
use Rattle.liang_hyph.specs.declared.source.Exception.{Exception}
use Rattle.job_lex.specs.declared.token.Tok.{Tok}
use Rattle.job_lex.specs.Tokens.{AreTokens}
use Rattle.job_reading.specs.declared.token.Token.{Token}
use Rattle.job_text.specs.declared.job.Job.{Job}
use Rattle.job_reading.specs.declared.fault.JobFault.{JobFault}
use Rattle.job_reading.specs.declared.fault.JobFault.TheVariants.{At, NoMemory}
use Rattle.job_reading.specs.declared.fault.JobFaultKind.{JobFaultKind}
use Rattle.job_reading.specs.Faults.{IsTokenFault}
use Rattle.job_reading.specs.GrammarTokens.{grammar_tokens}
use Rattle.job_text.specs.Fonts.{Font, fonts_of}
use Rattle.job_text.specs.Hyphenation.{PatternText, patterns_of}
use Rattle.job_text.specs.Job.{State, job_of}

-- what a job says
pub record Said : Type 0 where
  pub fonts : List Font
  pub tables : Tables
  pub patterns : List PatternText
  pub exceptions : List Exception
  pub pars : List Par

abbrev pub said_of : Job → Said
said_of job = record { fonts = fonts_of job.fonts; tables = job.tables; patterns = patterns_of job.patterns; exceptions = job.exceptions; pars = job.pars }

abbrev pub said_by : State → Said
said_by state = record { fonts = state.fonts; tables = state.tables; patterns = state.patterns; exceptions = state.exceptions; pars = state.pars }

-- The bytes spell a job: they have tokens, and the grammar's tokens say it up to its end.
pub record IsJobOf (bytes : List ℕ) (said : Said) : Type 0 where
  pub toks : List Tok
  pub state : State
  pub rest : List Token
  pub are_tokens : AreTokens bytes toks
  pub reads : job_of bytes (grammar_tokens bytes toks) ≡ Ok (state, rest)
  pub is : said_by state ≡ said

-- the bytes have tokens, which break the grammar first at the place
pub record IsGrammarFault (bytes : List ℕ) (place : ℕ) (kind : JobFaultKind) : Type 0 where
  pub toks : List Tok
  pub are_tokens : AreTokens bytes toks
  pub reads : job_of bytes (grammar_tokens bytes toks) ≡ Err (record { offset = place; kind = kind })

-- a fault of the tokens comes before any of the grammar
abbrev pub IsFaultAt : List ℕ → ℕ → JobFaultKind → Type 0
IsFaultAt bytes place kind = IsTokenFault bytes place kind ⊎ IsGrammarFault bytes place kind

-- what is answered is true of the bytes
abbrev pub IsAnswer : List ℕ → Result Job JobFault → Type 0
IsAnswer bytes (Ok job) = IsJobOf bytes (said_of job)
IsAnswer bytes (Err (At place kind)) = IsFaultAt bytes place kind
IsAnswer bytes (Err NoMemory) = Unit {0}

-- this job is the answer, unless memory ran out
abbrev pub GivesJob : Result Job JobFault → Said → Type 0
GivesJob (Ok job) said = said_of job ≡ said
GivesJob (Err (At place kind)) said = ⊥
GivesJob (Err NoMemory) said = Unit {0}

-- this fault is the answer, unless memory ran out
abbrev pub GivesFault : Result Job JobFault → ℕ → JobFaultKind → Type 0
GivesFault (Ok job) place kind = ⊥
GivesFault (Err (At offset found)) place kind = (offset ≡ place) × (found ≡ kind)
GivesFault (Err NoMemory) place kind = Unit {0}

-- the bytes spell a job
pub record HasJob (bytes : List ℕ) : Type 0 where
  pub said : Said
  pub is : IsJobOf bytes said

-- the bytes have a fault
pub record HasFault (bytes : List ℕ) : Type 0 where
  pub place : ℕ
  pub kind : JobFaultKind
  pub is : IsFaultAt bytes place kind
