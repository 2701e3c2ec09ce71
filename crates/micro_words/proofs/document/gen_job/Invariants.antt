use Rattle.std.proofs.Common.{◌≡◌, ◌-◌, ◌++◌}
use Rattle.micro_words.specs.Documents.{settings}
use Rattle.micro_words.specs.Prose.{paragraphs}
use Rattle.micro_words.proofs.document.gen_job.Given as goal

abbrev pub invariant-loop-paragraph : goal.invariant-loop-paragraph
invariant-loop-paragraph l = l.text.items ++ paragraphs (l.fn.n - l._paragraph) l.state ≡ settings ++ paragraphs l.fn.n l.fn.n
