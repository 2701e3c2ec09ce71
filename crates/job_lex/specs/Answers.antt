-- What `tokens` answers: the tokens, the first fault, or want of memory. This is the crate's own.
use Rattle.std.specs.Prelude.{◌≡◌, ℕ, List, Result, Ok, Err}
use Rattle.job_lex.specs.declared.token.Tok.{Tok}
use Rattle.job_lex.specs.declared.fault.LexFault.{LexFault}
use Rattle.job_lex.specs.declared.fault.LexFault.TheVariants.{At, NoMemory}
use Rattle.job_lex.specs.declared.fault.LexFaultKind.{LexFaultKind}
use Rattle.job_lex.specs.Tokens.{AreTokens, IsFirstFault}

-- what is answered is true of the bytes
abbrev pub IsAnswer : List ℕ → Result (List Tok) LexFault → Type 0
IsAnswer bytes (Ok toks) = AreTokens bytes toks
IsAnswer bytes (Err (At place kind)) = IsFirstFault bytes place kind
IsAnswer bytes (Err NoMemory) = Unit {0}

-- these tokens are the answer, unless memory ran out
abbrev pub GivesTokens : Result (List Tok) LexFault → List Tok → Type 0
GivesTokens (Ok toks) wanted = toks ≡ wanted
GivesTokens (Err (At place kind)) wanted = ⊥
GivesTokens (Err NoMemory) wanted = Unit {0}

-- this fault is the answer, unless memory ran out
abbrev pub GivesFault : Result (List Tok) LexFault → ℕ → LexFaultKind → Type 0
GivesFault (Ok toks) place kind = ⊥
GivesFault (Err (At offset found)) place kind = (offset ≡ place) × (found ≡ kind)
GivesFault (Err NoMemory) place kind = Unit {0}
