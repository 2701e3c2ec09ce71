-- The pieces are those of the word in its font, at its places.
use Rattle.std.proofs.Common.{◌≡◌, ◌++◌, [], length, ap, sym, ◌∙◌, arith, List}
use Rattle.hlist.specs.declared.item.Item.{Item}
use Rattle.hlist_hyph.specs.Hyphenated.{places_in}
use Rattle.hlist_hyph.proofs.LoopLemmas.{word_items-is}
use Rattle.hlist_hyph.proofs.SilentWords.{empty_of, word-none}
use Rattle.hlist_hyph.proofs.hyphenating.push_word.Goals as goal

pub returns : goal.returns
returns c =
    rw (word_items-is c.args.tables.now c.args.stock.now (places_in c.args.patterns.now c.args.params.now) c.args.word c.args.items.now
    c.font.result.now c.from_vec-places.result c.font.ensures (c.from_vec-places.ensures ∙ c.in_ok-word_places.ensures))
    c.push_pieces.ensures

pub returns-then-len-eq0 : goal.returns-then-len-eq0
returns-then-len-eq0 c =
    let places = places_in c.args.patterns.now c.args.params.now in
    let none = empty_of c.from_vec-places.result (omega (arith, c.len.ensures, c.if-len-eq0.true)) in
    c.in_ok-push_copies.ensures
    ∙ ap (λ (items : List Item). c.args.list.now ++ items)
    (sym (word-none c.args.tables.now c.args.stock.now places c.args.word c.args.items.now
    (sym (c.from_vec-places.ensures ∙ c.in_ok-word_places.ensures) ∙ none)))
