-- Where a line has too much, fonts shrink.
use Rattle.std.proofs.Common.{◌≡◌, sym, ap, ◌∙◌, arith, Bool, true, false, if◌then◌else◌, ℤ, pos, negsuc, neg_ℤ, w32, w64, FitsSigned, rules}
use Rattle.std.specs.Prelude.{int_lt}
use Rattle.std.proofs.lemmas.Int.{to_z-of_z}
use Rattle.std.proofs.lemmas.Bool.Decides.{nat_tests}
use Rattle.break_rule.specs.declared.sums.Sums.{Sums}
use Rattle.hpack_two.specs.Widths.{ratio_of, share_of}
use Rattle.hpack_two.proofs.ratio.ratio.Goals as goal

shrinks : (expand : Bool) (lacking : ℤ) (sums : Sums) → expand ≡ true → int_lt lacking (pos 0) ≡ true → int_lt (pos 0) sums.font_shrink ≡ true
    → neg_ℤ (share_of (neg_ℤ lacking) sums.font_shrink) ≡ ratio_of expand lacking sums
unfolding ratio_of
shrinks false lacking sums on less given = absurd (cc)
shrinks true (pos n) sums on less given = absurd (grind (arith, nat_tests))
shrinks true (negsuc n) sums on less given = sym (ap (λ b. if b then neg_ℤ (share_of (neg_ℤ (negsuc n)) sums.font_shrink) else pos 0) given)

pub returns-then-sums-gt0-2-clause-exact : goal.returns-then-sums-gt0-2-clause-exact
returns-then-sums-gt0-2-clause-exact c =
    let lacking = c.args.lacking in
    let shrink = c.args.sums.now.font_shrink in
    let result = c.negated-then-sums-gt0-2.result in
    let fits : FitsSigned w32 result = search rules in
    let wide : FitsSigned w64 result = search rules in
    let lacking_back = to_z-of_z w64 lacking (search rules) in
    let shrink_back = to_z-of_z w64 shrink (search rules) in
    let share_back = to_z-of_z w64 c.share-then-sums-gt0-2.result (search rules) in
    let negated_back = to_z-of_z w64 c.negated.result (search rules) in
    let less = rw lacking_back at c.if-lacking-lt0.true in
    let given = rw shrink_back at c.if-sums-gt0-2.true in
    let opposite = rw lacking_back at c.negated.ensures.exact in
    let share = rw (negated_back, shrink_back) at c.share-then-sums-gt0-2.ensures.exact in
    let is = rw share_back at c.negated-then-sums-gt0-2.ensures.exact in
    rw (to_z-of_z w64 result wide, to_z-of_z w32 result fits)
    (is ∙ ap neg_ℤ (share ∙ ap (λ (n : ℤ). share_of n shrink) opposite) ∙ shrinks c.args.expand lacking c.args.sums.now c.if-expand-2.true less given)
