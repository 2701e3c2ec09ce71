-- The word that the search comes to has no place, or there is none.
use Rattle.std.proofs.Common.{◌≡◌, ◌+◌, [], length, refl, sym, ◌∙◌, add-zero, arith}
use Rattle.std.proofs.lemmas.Bool.{eqb-true}
use Rattle.std.specs.Prelude.{Some, None}
use Rattle.hlist_hyph.specs.Hyphenated.{places_in}
use Rattle.hlist_hyph.proofs.LoopLemmas.{tail-range, front-count-is}
use Rattle.hlist_hyph.proofs.SilentWords.{empty_of, front-empty, front-same}
use Rattle.hlist_hyph.proofs.unchanged.unchanged_front.Goals as goal

pub returns-then-is_empty-clause-same : goal.returns-then-is_empty-clause-same
returns-then-is_empty-clause-same c =
    let places = c.in_ok-places-in-Some.places in
    let empty = eqb-true _ 0 (sym c.is_empty.ensures ∙ c.if-is_empty.true) in
    let none : places.items ≡ [] = empty_of places.items (omega (arith, empty, places.ok.0)) in
    front-same c.args.tables.now c.args.stock.now (places_in c.args.patterns.now c.args.params.now) c.args.items.now _ _ c.passed-passed.result c.in-Some.word places.items
    c.passed-passed.ensures.exact (tail-range c.passed-passed.result c.args.items.now) c.in-Some.ensures.exact refl
    c.in_ok-places-in-Some.ensures none

pub returns-then-is_empty-clause-exact : goal.returns-then-is_empty-clause-exact
returns-then-is_empty-clause-exact c =
    front-count-is c.args.tables.now c.args.stock.now c.args.items.now _ c.passed-passed.result (Some c.in-Some.word)
    c.passed-passed.ensures.exact (tail-range c.passed-passed.result c.args.items.now) c.in-Some.ensures.exact

pub returns-clause-same : goal.returns-clause-same
returns-clause-same c =
    front-empty c.args.tables.now c.args.stock.now (places_in c.args.patterns.now c.args.params.now) c.args.items.now _ c.passed-passed.result
    c.passed-passed.ensures.exact (tail-range c.passed-passed.result c.args.items.now) c.in-None.ensures.exact

pub returns-clause-exact : goal.returns-clause-exact
returns-clause-exact c =
    sym (add-zero c.passed-passed.result)
    ∙ front-count-is c.args.tables.now c.args.stock.now c.args.items.now _ c.passed-passed.result None
    c.passed-passed.ensures.exact (tail-range c.passed-passed.result c.args.items.now) c.in-None.ensures.exact
