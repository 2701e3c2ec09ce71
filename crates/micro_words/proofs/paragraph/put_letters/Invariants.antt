use Rattle.std.proofs.Common.{◌≡◌, ◌-◌, ◌++◌}
use Rattle.micro_words.specs.Draws.{state_after}
use Rattle.micro_words.specs.Prose.{letters}
use Rattle.micro_words.proofs.paragraph.put_letters.Given as goal

abbrev pub invariant-loop-letter : goal.invariant-loop-letter
invariant-loop-letter l = record {
  text : l.text.items ++ letters (l.fn.count - l._letter) l.state ≡ l.fn.text.items ++ letters l.fn.count l.fn.before;
  state : state_after (l.fn.count - l._letter) l.state ≡ state_after l.fn.count l.fn.before;
}
