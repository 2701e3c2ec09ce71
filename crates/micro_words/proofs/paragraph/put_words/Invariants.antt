use Rattle.std.proofs.Common.{◌≡◌, ◌-◌, ◌+◌, ◌++◌}
use Rattle.micro_words.specs.Prose.{words, after_words}
use Rattle.micro_words.proofs.paragraph.put_words.Given as goal

abbrev pub invariant-loop-number : goal.invariant-loop-number
invariant-loop-number l = record {
  text : l.text.items ++ words (l.fn.count - l.number) (l.number + 1) l.state ≡ l.fn.text.items ++ words l.fn.count 1 l.fn.before;
  state : after_words (l.fn.count - l.number) l.state ≡ after_words l.fn.count l.fn.before;
}
