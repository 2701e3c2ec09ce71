-- The word is closed, or not.
use Rattle.std.proofs.Common.{sym, ◌∙◌}
use Rattle.hlist_hyph.proofs.LoopLemmas.{tail-range}
use Rattle.hlist_hyph.proofs.WordLemmas.{closed-word, open-word, word-room}
use Rattle.hlist_hyph.proofs.word.word_with.Goals as goal

pub returns-then-is_closed-clause-exact : goal.returns-then-is_closed-clause-exact
returns-then-is_closed-clause-exact c =
    closed-word c.args.tables.now c.args.number c.args.hyphen c.word_length-count.result c.args.items.now c.word_length-count.ensures.exact
    (rw (tail-range c.word_length-count.result c.args.items.now) at (sym c.is_closed.ensures ∙ c.if-is_closed.true))

pub returns-then-is_closed-clause-few : goal.returns-then-is_closed-clause-few
returns-then-is_closed-clause-few c =
    rw (c.word_length-count.ensures.exact) (word-room c.args.tables.now c.args.number 63 c.args.items.now)

pub returns-else-is_closed-clause-exact : goal.returns-else-is_closed-clause-exact
returns-else-is_closed-clause-exact c =
    open-word c.args.tables.now c.args.number c.args.hyphen c.word_length-count.result c.args.items.now c.word_length-count.ensures.exact
    (rw (tail-range c.word_length-count.result c.args.items.now) at (sym c.is_closed.ensures ∙ c.if-is_closed.false))
