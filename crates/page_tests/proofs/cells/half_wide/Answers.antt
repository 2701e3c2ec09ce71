use Rattle.std.proofs.Common.{◌≡◌, ℤ, List, ap, ◌∙◌, pos, replicate, rules}
use Rattle.instance_core.specs.declared.font.BaseFont.{BaseFont}
use Rattle.page_tests.proofs.cells.half_wide.Goals as goal

abbrev font_of : List ℤ → BaseFont
font_of widths = record { size = pos 655360; widths = widths; stretch = 20; shrink = 20; step = 1 }

pub returns : goal.returns
returns c =
    let widths : c.in_ok-vec.field-0.items ≡ replicate 256 (pos 524288) = search rules in
    ap font_of (c.from_vec.ensures ∙ widths)
