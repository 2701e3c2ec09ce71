-- What a job comes to with its fonts: the lines that tell how its paragraphs are broken.
--     breaks_outcome job stock     a line for each paragraph, or the first that has no list
-- Every paragraph is broken before a line is given.
use Rattle.std.specs.Prelude.{ℕ, List, [], None, Result, Ok, Err}
use Rattle.font_stock.specs.declared.font.Font.{Font}
use Rattle.job_text.specs.declared.job.Job.{Job}
use Rattle.job_breaks.specs.Lines.{broken_lines}
use Rattle.para_workers.specs.declared.fault.ParAt.{ParAt}
use Rattle.micro_texts.specs.declared.answer.Answer.TheVariants.{Par}
use Rattle.micro_document.specs.Outcome.{Outcome}
use Rattle.micro_document.specs.Outcome.Outcome.{Refuses, Gives}

abbrev pub lines_outcome : Result (List (List ℕ)) ParAt → Outcome
lines_outcome (Err at) = Refuses (Par at)
lines_outcome (Ok lines) = Gives (record { out = []; talk = lines; instances = None })

unfoldable pub breaks_outcome : Job → List Font → Outcome
breaks_outcome job stock = lines_outcome (broken_lines job stock)
