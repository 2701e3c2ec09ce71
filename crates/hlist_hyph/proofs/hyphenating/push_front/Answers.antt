-- What the search passes, and then the word, if there is one.
use Rattle.std.proofs.Common.{◌≡◌, ◌++◌, ◌-◌, [], length, take, drop, refl, ap, sym, ◌∙◌, append_assoc, append-nil, add-zero}
use Rattle.std.specs.Prelude.{Some, None}
use Rattle.hlist_hyph.specs.Hyphenated.{places_in}
use Rattle.hlist_hyph.proofs.LoopLemmas.{head-range, tail-range, front-is, front-count-is, front-word, front-none}
use Rattle.hlist_hyph.proofs.hyphenating.push_front.Goals as goal

pub returns-in_ok-push_word-in-Some-clause-put : goal.returns-in_ok-push_word-in-Some-clause-put
returns-in_ok-push_word-in-Some-clause-put c =
    front-word c.args.tables.now c.args.stock.now (places_in c.args.patterns.now c.args.params.now) c.args.items.now _ _ _
    c.passed-passed.result c.in-Some.word c.args.list.now c.push_copies.new.list c.push_word.new.list
    c.passed-passed.ensures.exact (tail-range c.passed-passed.result c.args.items.now) c.in-Some.ensures.exact
    c.in_ok-push_copies.ensures refl
    c.in_ok-push_word-in-Some.ensures refl

pub returns-in_ok-push_word-in-Some-clause-exact : goal.returns-in_ok-push_word-in-Some-clause-exact
returns-in_ok-push_word-in-Some-clause-exact c =
    front-count-is c.args.tables.now c.args.stock.now c.args.items.now _ c.passed-passed.result (Some c.in-Some.word)
    c.passed-passed.ensures.exact (tail-range c.passed-passed.result c.args.items.now) c.in-Some.ensures.exact

pub returns-in-None-clause-put : goal.returns-in-None-clause-put
returns-in-None-clause-put c =
    front-none c.args.tables.now c.args.stock.now (places_in c.args.patterns.now c.args.params.now) c.args.items.now _ _
    c.passed-passed.result c.args.list.now c.push_copies.new.list
    c.passed-passed.ensures.exact (tail-range c.passed-passed.result c.args.items.now) c.in-None.ensures.exact
    c.in_ok-push_copies.ensures refl

pub returns-in-None-clause-exact : goal.returns-in-None-clause-exact
returns-in-None-clause-exact c =
    sym (add-zero c.passed-passed.result)
    ∙ front-count-is c.args.tables.now c.args.stock.now c.args.items.now _ c.passed-passed.result None
    c.passed-passed.ensures.exact (tail-range c.passed-passed.result c.args.items.now) c.in-None.ensures.exact
