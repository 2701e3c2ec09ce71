use Rattle.std.proofs.Common.{Some, ap, ◌∙◌}
use Rattle.std.specs.Str.{bytes_eq}
use Rattle.liang_hyph.proofs.RowLemmas.{lookup-view}
use Rattle.liang_hyph.proofs.rows.Rows.find.Goals as goal

pub returns-in-Some : goal.returns-in-Some
returns-in-Some c =
    rw (← c.self.view_is) (ap Some c.as_slice.ensures ∙ c.in-Some.ensures.value ∙ lookup-view (λ k. k.items) (bytes_eq c.args.letters.now) c.self.inside.map.entries)

pub returns-in-None : goal.returns-in-None
returns-in-None c =
    rw (← c.self.view_is) (c.in-None.ensures.value ∙ lookup-view (λ k. k.items) (bytes_eq c.args.letters.now) c.self.inside.map.entries)
