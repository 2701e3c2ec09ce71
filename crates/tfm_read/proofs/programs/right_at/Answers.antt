use Rattle.std.proofs.Common.{sym, arith, ◌∙◌, ap, ◌<◌}
use Rattle.tfm_read.specs.Ligatures.{lig_of, right_in}
use Rattle.tfm_read.proofs.LigWords.{right_none, right_first}
use Rattle.tfm_read.proofs.programs.right_at.Goals as goal

pub returns-then-count-eq0 : goal.returns-then-count-eq0
returns-then-count-eq0 c = sym (right_none (lig_of c.args.bytes.now c.args.place) c.args.count c.if-count-eq0.true)

pub returns : goal.returns
returns c =
    let some : 0 < c.args.count = omega arith in
    c.right_in.ensures ∙ ap right_in c.lig_at.ensures ∙ sym (right_first (lig_of c.args.bytes.now c.args.place) c.args.count some)
