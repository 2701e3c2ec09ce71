-- The word in the font of the first item, where that is in the stock and has a hyphen character.
use Rattle.std.proofs.Common.{length, sym, ◌∙◌}
use Rattle.std.specs.Prelude.{Some, None}
use Rattle.hlist_hyph.proofs.LoopLemmas.{some-below}
use Rattle.hlist_hyph.proofs.WordLemmas.{first-below, by-first, by-hyphen}
use Rattle.hlist_hyph.proofs.word.word_of.Goals as goal

pub font-requires : goal.font-requires
font-requires c =
    first-below (length c.args.stock.now) c.args.items.now c.in-Some.number c.requires (sym c.in-Some.ensures)

pub returns-in-Some-hyphen_code-clause-exact : goal.returns-in-Some-hyphen_code-clause-exact
returns-in-Some-hyphen_code-clause-exact c =
    c.word_with.ensures.exact
    ∙ sym (by-hyphen c.args.tables.now c.args.stock.now c.args.items.now c.in-Some.number c.font.result.now (Some c.in-Some-hyphen_code.hyphen)
    (sym c.in-Some.ensures) c.font.ensures (sym c.in-Some-hyphen_code.ensures))

pub returns-in-Some-hyphen_code-clause-font : goal.returns-in-Some-hyphen_code-clause-font
returns-in-Some-hyphen_code-clause-font c =
    some-below c.word_with.result c.in-Some.number (length c.args.stock.now) c.word_with.ensures.font
    (first-below (length c.args.stock.now) c.args.items.now c.in-Some.number c.requires (sym c.in-Some.ensures))

pub returns-in-None-hyphen_code-clause-exact : goal.returns-in-None-hyphen_code-clause-exact
returns-in-None-hyphen_code-clause-exact c =
    sym (by-hyphen c.args.tables.now c.args.stock.now c.args.items.now c.in-Some.number c.font.result.now None
    (sym c.in-Some.ensures) c.font.ensures (sym c.in-None-hyphen_code.ensures))

pub returns-in-None-clause-exact : goal.returns-in-None-clause-exact
returns-in-None-clause-exact c = sym (by-first c.args.tables.now c.args.stock.now c.args.items.now None (sym c.in-None.ensures))
