-- A place between two items that cover letters.
use Rattle.std.proofs.Common.{◌≡◌, true, false, length, sym, ◌∙◌, arith}
use Rattle.std.specs.Prelude.{nat_lt}
use Rattle.std.proofs.lemmas.Bool.Decides.{nat_tests}
use Rattle.hlist_hyph.specs.Pieces.{hyphening, is_place}
use Rattle.hlist_hyph.specs.Words.{letters}
use Rattle.hlist_hyph.proofs.RunLemmas.{joint-on, joint-off, joint-none}
use Rattle.hlist_hyph.proofs.joining.joint.Goals as goal
use Rattle.hlist_hyph.proofs.joining.joint.Goals.{else-letter_count-gt0-via-then-letter_count-gt0+else-is_place, else-letter_count-gt0-via-else-letter_count-gt0}

pub returns-then-is_place : goal.returns-then-is_place
returns-then-is_place c =
    let more = c.if-letter_count-gt0.true in
    let size = c.letter_count.ensures in
    let covers : nat_lt 0 (length (letters c.args.item.now)) ≡ true = grind (arith, nat_tests, more, size) in
    let placed : is_place c.args.setting.now.places c.args.end ≡ true =
    rw c.as_slice.ensures at (sym c.is_place.ensures ∙ c.if-is_place.true) in
    rw (joint-on (hyphening c.args.font.now c.args.setting.now) c.args.end c.args.item.now c.args.behind.now covers placed)
    c.joint_behind.ensures

pub returns-else-letter_count-gt0 : goal.returns-else-letter_count-gt0
returns-else-letter_count-gt0 c =
    let w = hyphening c.args.font.now c.args.setting.now in
    elim c.else-letter_count-gt0.branch [
      | else-letter_count-gt0-via-then-letter_count-gt0+else-is_place one ↦
          sym (joint-off w c.args.end c.args.item.now c.args.behind.now
          (rw one.as_slice.ensures at (sym one.is_place.ensures ∙ one.if-is_place.false)))
      | else-letter_count-gt0-via-else-letter_count-gt0 one ↦
          let less = one.if-letter_count-gt0.false in
          let size = c.letter_count.ensures in
          let covers : nat_lt 0 (length (letters c.args.item.now)) ≡ false = grind (arith, nat_tests, less, size) in
          sym (joint-none w c.args.end c.args.item.now c.args.behind.now covers)
    ]
