-- Why there is nothing to write.
--     stop_of answer          an answer that is about no file's reading
--     stop_at name answer     an answer about the reading of the file of a name
use Rattle.std.specs.Prelude.{ℕ, List, Some, None}
use Rattle.micro_texts.specs.declared.answer.Answer.{Answer}
use Rattle.micro_document.specs.declared.stop.Stop.{Stop}

abbrev pub stop_of : Answer → Stop
stop_of answer = record { answer = answer; name = None }

abbrev pub stop_at : List ℕ → Answer → Stop
stop_at name answer = record { answer = answer; name = Some name }
