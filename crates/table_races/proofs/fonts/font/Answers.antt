use Rattle.std.proofs.Common.{rules, ◌≡◌, ◌∙◌, replicate, pos}
use Rattle.table_races.proofs.FontLemmas.{is_base}
use Rattle.table_races.proofs.fonts.font.Goals as goal

pub returns : goal.returns
returns c =
    let widths : c.in_ok-vec.field-0.items ≡ replicate 256 (pos 524288) = search rules in
    is_base c.args.limit c.from_vec.result c.requires (c.from_vec.ensures ∙ widths)
