-- The flag's text is `true` where it was given, and `false` by default.
use Rattle.std.proofs.Common.{◌≡◌, ◌∙◌, sym, refl, codes}
use Rattle.std.specs.Prelude.{Some, None}
use Rattle.clap.specs.Matches.{found_of}
use Rattle.clap.specs.Walk.{first_of, rows_of}
use Rattle.clap.proofs.WalkLemmas.{first_value-rows}
use Rattle.micro_words.proofs.said.is_reported.Goals as goal

pub returns-in-Some : goal.returns-in-Some
returns-in-Some c =
    let found = found_of c.args.matches.now in
    let text : first_of (codes "report") (rows_of found) ≡ Some c.in-Some.text.now
    = sym (first_value-rows found (codes "report")) ∙ sym c.in-Some.ensures in
    rw text c.eq.ensures

pub returns-in-None : goal.returns-in-None
returns-in-None c =
    let found = found_of c.args.matches.now in
    let text : first_of (codes "report") (rows_of found) ≡ None
    = sym (first_value-rows found (codes "report")) ∙ sym c.in-None.ensures in
    rw text refl
