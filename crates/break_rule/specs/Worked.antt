-- Lists worked out by hand.
use Rattle.std.specs.Prelude.{◌≡◌, refl, pos, negsuc, List, [], ◌∷◌}
use Rattle.micro_num.specs.declared.glue.Glue.{Glue as glue_type}
use Rattle.micro_num.specs.Plain.{plain_params, fil}
use Rattle.std.proofs.Common.{lit≤}
use Rattle.hlist.specs.declared.item.Item.{Item}
use Rattle.hlist.specs.declared.item.Item.TheVariants.{Char, Glue, Penalty}
use Rattle.break_rule.specs.declared.line.From.TheVariants.{After}
use Rattle.break_rule.specs.Adding.{plus, minus, sums_of_glue, sums_of_glyph, added, added_subs}
use Rattle.break_rule.specs.Places.{legal_of, is_place, kept_from, begin_of}
use Rattle.break_rule.specs.Lines.{measure_of, measure_sums, pre_of, post_of}

abbrev pub word_space : glue_type
word_space = record { width = pos 163840; stretch = pos 81920; order = 0; shrink = pos 40960; order_exists = lit≤ tt }

-- a, a space, a forced break, a space, b, and the end of a paragraph
abbrev pub two_letters : List Item
two_letters =
    Char 0 97 ∷ Glue word_space ∷ Penalty (negsuc 9999) ∷ Glue word_space ∷ Char 0 98 ∷ Penalty (pos 10000) ∷ Glue fil ∷ []

-- a line may end at the space behind the letter, at the penalty and at the end
pub places_of_two_letters : legal_of plain_params two_letters ≡ 1 ∷ 2 ∷ 7 ∷ []
unfolding legal_of is_place plain_params
places_of_two_letters = refl

-- behind the first break all up to the second letter vanishes, so the line from it to the second takes a space away
pub a_line_that_begins_past_its_end : measure_of [] two_letters (After 1) 2 ≡ record {
  width = negsuc 163839;
  stretch = negsuc 81919 ∷ pos 0 ∷ pos 0 ∷ pos 0 ∷ [];
  shrink = negsuc 40959;
  font_stretch = pos 0;
  font_shrink = pos 0;
}
unfolding measure_of measure_sums added added_subs plus minus sums_of_glue sums_of_glyph begin_of kept_from pre_of post_of
a_line_that_begins_past_its_end = refl
