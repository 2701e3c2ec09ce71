-- How a paragraph is broken.
--     broken_as              a list with its breaks
--     without_emergency      a rule in which the emergency stretch doesn't count
--     Rise                   each number is below the next one
--     AreLineEnds            where its lines end
--     IsRival                which ways its total is compared with
--     HasLeastTotal          that no way to the end has a lower total
--     IsBroken               all of it
use Rattle.std.specs.Prelude.{◌≡◌, ℕ, ◌+◌, ◌-◌, ◌<◌, ◌⊎◌, pos, ◌≤ℤ◌, false, List, length, All, Some, slice_get, slice_index}
use Rattle.line_break.specs.declared.node.Way.{Way}
use Rattle.line_break.specs.Best.{to_the_end}
use Rattle.line_break.specs.Members.{Among}
use Rattle.line_break.specs.Pass.{Pass}
use Rattle.line_break.specs.Taken.{breaks_of, line_count}
use Rattle.break_rule.specs.Fits.{Rule}
use Rattle.break_rule.specs.Made.{IsPlace}
use Rattle.hlist.specs.declared.item.HList.{HList}
use Rattle.paragraph_breaks.specs.declared.broken.Breaks.{Breaks}
use Rattle.paragraph_breaks.specs.declared.broken.Broken.{Broken}
use Rattle.paragraph_breaks.specs.Passes.{IsFirstTaken, Paragraph, passes_of, rule_over}

abbrev pub broken_as : HList → Breaks → Broken
broken_as list b = record { list = list; pass = b.pass; breaks = b.places; total = b.total }

abbrev pub without_emergency : Rule → Rule
without_emergency rule = record rule { emergency = false }

abbrev pub Rise : List ℕ → Type 0
Rise xs = (k : ℕ) → k + 1 < length xs → slice_index xs k < slice_index xs (k + 1)

-- the list that is broken, as lines are made of it
abbrev pub rule_of : Paragraph → Broken → Rule
rule_of p b = rule_over b.list.items p.params p.shape p.stock false

-- Lines end at legal places, strictly ascending, the last of which is the end.
pub record AreLineEnds (rule : Rule) (breaks : List ℕ) : Type 0 where
  pub legal : All (IsPlace rule) breaks
  pub rise : Rise breaks
  pub last : slice_get breaks (length breaks - 1) ≡ Some (length rule.items)

-- what the total is compared with: at a looseness other than 0 only ways with as many lines
abbrev pub IsRival : Paragraph → Broken → Way → Type 0
IsRival p b w = (p.params.looseness ≡ pos 0) ⊎ (line_count w ≡ length b.breaks)

-- The breaks and the total are those of a way to the end in the pass of that number, and no rival
-- that reaches the end in that pass has a lower total.
pub record HasLeastTotal (p : Paragraph) (b : Broken) : Type 0 where
  pub pass : Pass
  pub is_tried : Among (passes_of p) (b.pass, pass)
  pub way : Way
  pub reaches : Among (to_the_end pass) way
  pub breaks : b.breaks ≡ breaks_of pass way
  pub total : b.total ≡ way.total
  pub least : (w : Way) → Among (to_the_end pass) w → IsRival p b w → b.total ≤ℤ w.total

-- A paragraph is broken exactly as the first of its passes has it that is taken.
pub record IsBroken (p : Paragraph) (b : Broken) : Type 0 where
  pub exact : IsFirstTaken p b
  pub ends : AreLineEnds (rule_of p b) b.breaks
  pub least : HasLeastTotal p b
