use Rattle.std.proofs.Common.{rules, ap, ◌∙◌}
use Rattle.tfm_read.specs.Words.{signed_number}
use Rattle.tfm_read.proofs.FixWords.{slant_read}
use Rattle.tfm_read.proofs.sizes.param_at.Goals as goal

pub returns : goal.returns
returns c =
    slant_read c.args.bytes.now c.args.place c.args.i c.signed_number.result c.if-i-gt0.false (search rules) (c.signed_number.ensures ∙ ap signed_number c.word_at.ensures)
