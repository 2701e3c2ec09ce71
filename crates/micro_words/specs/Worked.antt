-- Words and draws worked out by hand.
--     draws k s       the first k draws from a state
--     after_name      the words of a command line, behind the program's name
--     no_commands     words that are no command
use Rattle.std.specs.Prelude.{ℕ, Bool, zero, suc, List, [], ◌∷◌, Option, Some, codes}
use Rattle.clap.specs.Walk.{Text}
use Rattle.micro_words.specs.Draws.{next_state, drawn}
use Rattle.micro_words.specs.declared.command.CommandKind.{CommandKind}
use Rattle.micro_words.specs.declared.command.Cmd.{Cmd}

unfoldable pub draws : ℕ → ℕ → List ℕ
draws zero s = []
draws (suc k) s = drawn (next_state s) ∷ draws k (next_state s)

abbrev pub first_draws : List ℕ
first_draws =
    16838 ∷ 5758 ∷ 10113 ∷ 17515 ∷ 31051 ∷ 5627 ∷ 23010 ∷ 7419 ∷ 16212 ∷ 4086 ∷ []

abbrev pub after_name : List Text → List Text
after_name words = codes "pdfmicro" ∷ words

abbrev pub command : CommandKind → List Text → ℕ → ℕ → Bool → Option Cmd
command kind files number workers report = Some (record {
  command = kind;
  files = files;
  number = number;
  workers = workers;
  report = report;
})

-- words with the right command but another count of texts, another number or other workers
abbrev pub no_commands : List (List Text)
no_commands =
    (codes "set" ∷ [])
    ∷ (codes "set" ∷ codes "a" ∷ codes "b" ∷ [])
    ∷ (codes "gen" ∷ codes "0" ∷ [])
    ∷ (codes "gen" ∷ codes "20001" ∷ [])
    ∷ (codes "gen" ∷ codes "01x" ∷ [])
    ∷ (codes "--workers" ∷ codes "65" ∷ codes "gen" ∷ codes "1" ∷ [])
    ∷ (codes "--workers" ∷ codes "08" ∷ codes "gen" ∷ codes "1" ∷ [])
    ∷ (codes "--workers=0" ∷ codes "set" ∷ codes "a" ∷ [])
    ∷ (codes "--help" ∷ [])
    ∷ []
