use Rattle.std.proofs.Common.{◌<◌, Option, Some, length, get_or, refl, sym, ap, ◌∙◌, subst}
use Rattle.std.specs.Prelude.{IfSome, option_map}
use Rattle.break_sweep.specs.Made.{no_made, way_at, ways_of}
use Rattle.break_sweep.proofs.Choices.{way_made}
use Rattle.break_sweep.proofs.answer.way_found.Goals as goal

pub returns-in_ok-earlier-in-Some : goal.returns-in_ok-earlier-in-Some
returns-in_ok-earlier-in-Some c =
    let ms = c.args.nodes.now in
    let index = c.in-Some.index in
    let within : index < length ms = subst (λ o. IfSome o (λ i. i < length ms)) c.in-Some.is c.first_of_least.ensures.within in
    ap Some (c.way_back.ensures ∙ way_made ms index (get_or ms index no_made) _ within refl c.in_ok-earlier-in-Some.ensures)
    ∙ (ap (option_map (way_at (ways_of ms))) (sym c.in-Some.is) ∙ c.first_of_least.ensures.found)
