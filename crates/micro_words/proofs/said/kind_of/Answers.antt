-- A name is compared with those of the commands one after another.
use Rattle.std.proofs.Common.{◌≡◌, ◌∙◌, sym, refl, true, false, codes}
use Rattle.std.specs.Str.{bytes_eq}
use Rattle.micro_words.specs.Commands.{kind_named}
use Rattle.micro_words.proofs.said.kind_of.Goals as goal

pub returns-then-eq : goal.returns-then-eq
unfolding kind_named
returns-then-eq c =
    let first : bytes_eq c.args.name.now (codes "set") ≡ true = sym c.eq.ensures ∙ c.if-eq.true in
    rw first refl

pub returns-then-eq-2 : goal.returns-then-eq-2
unfolding kind_named
returns-then-eq-2 c =
    let first : bytes_eq c.args.name.now (codes "set") ≡ false = sym c.eq.ensures ∙ c.if-eq.false in
    let second : bytes_eq c.args.name.now (codes "breaks") ≡ true = sym c.eq-2.ensures ∙ c.if-eq-2.true in
    rw (first, second) refl

pub returns-then-eq-3 : goal.returns-then-eq-3
unfolding kind_named
returns-then-eq-3 c =
    let first : bytes_eq c.args.name.now (codes "set") ≡ false = sym c.eq.ensures ∙ c.if-eq.false in
    let second : bytes_eq c.args.name.now (codes "breaks") ≡ false = sym c.eq-2.ensures ∙ c.if-eq-2.false in
    let third : bytes_eq c.args.name.now (codes "gen") ≡ true = sym c.eq-3.ensures ∙ c.if-eq-3.true in
    rw (first, second, third) refl

pub returns : goal.returns
unfolding kind_named
returns c =
    let first : bytes_eq c.args.name.now (codes "set") ≡ false = sym c.eq.ensures ∙ c.if-eq.false in
    let second : bytes_eq c.args.name.now (codes "breaks") ≡ false = sym c.eq-2.ensures ∙ c.if-eq-2.false in
    let third : bytes_eq c.args.name.now (codes "gen") ≡ false = sym c.eq-3.ensures ∙ c.if-eq-3.false in
    rw (first, second, third) refl
