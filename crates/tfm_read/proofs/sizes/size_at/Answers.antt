use Rattle.std.proofs.Common.{arith, rules}
use Rattle.tfm_read.proofs.FixWords.{size_read}
use Rattle.tfm_read.proofs.sizes.size_at.Goals as goal

pub returns : goal.returns
returns c =
    size_read c.args.bytes.now c.word_at-word.result c.args.place c.args.i c.signed_number.result c.is_fix_word.result (λ i. omega (arith, c.type_inv.bytes i)) (search rules) c.word_at-word.ensures c.is_fix_word.ensures (search rules) c.signed_number.ensures
