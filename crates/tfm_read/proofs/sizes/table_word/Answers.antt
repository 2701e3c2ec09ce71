use Rattle.std.proofs.Common.{ap, ◌∙◌}
use Rattle.tfm_read.specs.Words.{unsigned_number}
use Rattle.tfm_read.proofs.FixWords.{first_read}
use Rattle.tfm_read.proofs.sizes.table_word.Goals as goal

pub returns : goal.returns
returns c =
    first_read c.args.bytes.now c.args.place c.args.i c.unsigned_number.result c.if-i-gt0.false (c.unsigned_number.ensures ∙ ap unsigned_number c.word_at.ensures) c.if-unsigned_number-ne0.false
