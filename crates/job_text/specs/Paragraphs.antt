-- A paragraph: its parts, up to the token that ends it, where every group is closed (TeX: The Program, sections 1030 to 1096).
use Rattle.std.specs.Prelude.{ℕ, List, [], ◌∷◌, Option, Some, None, Result, Ok}
use Rattle.micro_num.specs.declared.paragraph.PartAt.{PartAt}
use Rattle.job_reading.specs.declared.token.Token.{Token}
use Rattle.job_text.specs.declared.groups.Group.{Group}
use Rattle.job_text.specs.declared.setting.Setting.{Setting}
use Rattle.job_reading.specs.declared.fault.Fault.{Fault}
use Rattle.job_reading.specs.declared.fault.JobFaultKind.TheVariants.{UnclosedGroup}
use Rattle.job_reading.specs.Lexemes.{ends_paragraph}
use Rattle.job_reading.specs.Reading.{Reading, ◌>>=◌, fault}
use Rattle.job_text.specs.Parts.{with_current, part}
use Rattle.job_reading.specs.Repeats.{read_until, GoesOn}

-- where a paragraph begins there is a Font part of the current font, if there is one
abbrev pub start_setting : Option ℕ → ℕ → Setting
start_setting current from = with_current (record { parts = []; current = current; groups = [] }) from

-- the part that the first token is, if it is one
abbrev pub first_part : List ℕ → List (List ℕ) → Setting → Option Token → List Token → Reading Setting
first_part bytes names setting None toks = Ok (setting, toks)
first_part bytes names setting (Some tok) toks = part bytes names setting tok toks

-- the parts of a paragraph are read on from the second setting and tokens as from the first
abbrev pub GoesOnAs : Setting → List Token → Setting → List Token → Type 0
GoesOnAs old toks new behind = (bytes : List ℕ) (names : List (List ℕ)) (whole : Reading Setting) → GoesOn ends_paragraph (part bytes names) old toks whole → GoesOn ends_paragraph (part bytes names) new behind whole

-- no group is open
abbrev pub no_open_group : List Group → Result (Unit {0}) Fault
no_open_group [] = Ok tt
no_open_group (group ∷ groups) = fault UnclosedGroup group.brace

-- The parts of a paragraph whose first token stands at a place, and the font that is current behind them.
unfoldable pub paragraph : List ℕ → List (List ℕ) → Option ℕ → ℕ → Option Token → List Token → Reading (List PartAt × Option ℕ)
paragraph bytes names current from first toks =
    first_part bytes names (start_setting current from) first toks >>= λ begun.
    read_until ends_paragraph (part bytes names) begun.0 begun.1 >>= λ read.
    no_open_group read.0.groups >>= λ _.
    Ok ((read.0.parts, read.0.current), read.1)
