-- Each turn puts the first of the letters that are left.
use Rattle.std.proofs.Common.{◌∙◌, ◌++◌, ◌∷◌, [], ap, arith, ◌<◌, ◌≤◌, ◌+◌, ◌%◌}
use Rattle.micro_words.proofs.Prose.{letters_put, state_put, letters_end, state_end}
use Rattle.micro_words.proofs.paragraph.put_letters.Goals as goal

pub loop-letter-preserved : goal.loop-letter-preserved
loop-letter-preserved c =
    let k = c.loop-letter._letter in
    let n = c.args.count in
    let s = c.loop-letter.state in
    let lt : k < n = omega arith in
    let put = letters_put n k s c.step-state.result c.loop-letter.text.items c.push.new.self.items lt c.step-state.ensures
    (c.in_ok-push.ensures.items ∙ ap (λ d. c.loop-letter.text.items ++ (97 + d % 26) ∷ []) c.draw.ensures) in
    record {
      text = put ∙ c.loop-letter.invariant.text;
      state = state_put n k s c.step-state.result lt c.step-state.ensures ∙ c.loop-letter.invariant.state;
    }

pub returns : goal.returns
returns c =
    let le : c.args.count ≤ c.loop-letter._letter = omega arith in (
      letters_end c.args.count c.loop-letter._letter c.loop-letter.state c.loop-letter.text.items _ le c.loop-letter.invariant.text,
      state_end c.args.count c.loop-letter._letter c.loop-letter.state _ le c.loop-letter.invariant.state,
    )
