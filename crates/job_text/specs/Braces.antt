-- A group: the brace that opens it, and the one that closes it (TeX: The Program, section 403).
use Rattle.std.specs.Prelude.{ℕ, List, [], ◌∷◌, Ok, if◌then◌else◌}
use Rattle.job_reading.specs.declared.token.Token.{Token}
use Rattle.job_reading.specs.declared.fault.JobFaultKind.TheVariants.{UnclosedGroup, GroupExpected}
use Rattle.job_reading.specs.Lexemes.{is_open, is_close}
use Rattle.job_reading.specs.Reading.{Reading, ◌>>=◌, fault, skip_space}
use Rattle.job_reading.specs.Repeats.{read_until}

abbrev pub open_brace_at : ℕ → List Token → Reading ℕ
open_brace_at end [] = fault GroupExpected end
open_brace_at end (tok ∷ toks) = if is_open tok.lexeme then Ok (tok.from, toks) else fault GroupExpected tok.from

-- Spaces and the brace that opens a group: its place
unfoldable pub open_brace : ℕ → List Token → Reading ℕ
open_brace end toks = open_brace_at end (skip_space toks)

-- The brace that closes a group; where the file ends before it, the fault is at the brace that opens the group.
abbrev pub close_brace : ℕ → List Token → Reading ℕ
close_brace brace [] = fault UnclosedGroup brace
close_brace brace (tok ∷ toks) = Ok (brace, toks)

-- Spaces and a group, in which a rule is carried out at one token after another
abbrev pub in_braces : {A : Type 0} → ℕ → (A → Token → List Token → Reading A) → A → List Token → Reading A
in_braces end step state toks =
    open_brace end toks >>= λ brace.
    read_until is_close step state brace.1 >>= λ read.
    close_brace brace.0 read.1 >>= λ closing.
    Ok (read.0, closing.1)
