use Rattle.std.proofs.Common.{◌≡◌, ◌-◌, ◌<◌, min, length, arith, rules}
use Rattle.micro_num.proofs.Shapes.{line_at-shape}
use Rattle.micro_num.proofs.shape.shape_line.Goals as goal

pub returns-else-is_empty : goal.returns-else-is_empty
returns-else-is_empty c =
    let some : 0 < length c.args.shape.now = search rules in
    let place : c.min-place.result - 1 ≡ min c.args.line (length c.args.shape.now) - 1 = omega arith in
    line_at-shape c.args.params.now c.args.shape.now c.args.line _ _ some c.requires.line place
