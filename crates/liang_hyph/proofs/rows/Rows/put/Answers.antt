use Rattle.std.proofs.Common.{ap, ◌∙◌, map}
use Rattle.std.specs.Str.{bytes_eq}
use Rattle.liang_hyph.proofs.RowLemmas.{insert_entry-view}
use Rattle.liang_hyph.proofs.rows.Rows.put.Goals as goal

pub returns : goal.returns
returns c =
    rw (← c.self.view_is, ← c.in_ok-key.ensures.items) (ap (map (λ e. (e.0.items, e.1))) c.in_ok-insert.ensures.entries ∙ insert_entry-view (λ k. k.items) bytes_eq c.self.inside.map.entries c.in_ok-key.key c.args.row)
