-- Each turn puts the first of the words that are left, and its mark.
use Rattle.std.proofs.Common.{◌≡◌, ◌∙◌, ◌+◌, ◌-◌, ◌<◌, ◌≤◌, arith}
use Rattle.micro_words.proofs.Prose.{words_put, after_words_put, words_end, after_words_end}
use Rattle.micro_words.proofs.paragraph.put_words.Goals as goal

pub loop-number-preserved : goal.loop-number-preserved
loop-number-preserved c =
    let k = c.loop-number.number in
    let n = c.args.count in
    let s = c.loop-number.state in
    let lt : k < n = omega arith in
    let left : n - k - 1 ≡ n - (k + 1) = omega arith in
    let behind = c.in_ok-state.state in
    record {
      text = words_put n k s behind _ c.loop-number.text.items _ _ lt c.in_ok-state.ensures.1 left
          c.in_ok-state.ensures.0 c.in_ok-put_mark.ensures ∙ c.loop-number.invariant.text;
      state = after_words_put n k s behind lt c.in_ok-state.ensures.1 ∙ c.loop-number.invariant.state;
    }

pub returns : goal.returns
returns c =
    let le : c.args.count ≤ c.loop-number.number = omega arith in (
      words_end c.args.count c.loop-number.number _ c.loop-number.state c.loop-number.text.items _ le c.loop-number.invariant.text,
      after_words_end c.args.count c.loop-number.number c.loop-number.state _ le c.loop-number.invariant.state,
    )
