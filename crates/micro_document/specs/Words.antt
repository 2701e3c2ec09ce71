-- The words of a command line.
--     word_texts words     the words as texts
--     workers_of command   how many workers the command of words has
use Rattle.std.specs.Prelude.{ℕ, List, map, string_bytes, Option, Some, None}
use Rattle.std.specs.declared.string.String.{String}
use Rattle.std.specs.declared.alloc.Global.{Global}
use Rattle.micro_words.specs.declared.command.Cmd.{Cmd}

abbrev pub word_texts : List (String Global) → List (List ℕ)
word_texts words = map (λ (word : String Global). string_bytes word) words

-- words that are no command have none
abbrev pub workers_of : Option Cmd → ℕ
workers_of None = 0
workers_of (Some cmd) = cmd.workers
