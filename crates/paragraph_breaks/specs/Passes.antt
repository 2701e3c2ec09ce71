-- The passes by which a paragraph is broken, and what they give (TeX: The Program, sections 863 and
-- 873 to 875).
--     Paragraph              what a paragraph is broken by, the hyphen places of words among it
--     hyphenated_of          its list with its words hyphenated
--     early_passes, late_passes    the passes over a list as it stands, and over a hyphenated one
--     passes_of              the passes that are tried, with their numbers
--     items_of               the list that a pass breaks
--     taken_way, taken_by    the way of a pass that is taken, and what it gives
--     IsFirstTaken           what the first of them gives that is taken
use Rattle.std.specs.Prelude.{◌≡◌, ℕ, ◌==◌, ℤ, pos, int_le, int_lt, Bool, true, false, List, [], ◌∷◌, ◌++◌, Option, Some, None, if◌then◌else◌}
use Rattle.std.specs.Int.{int_min}
use Rattle.font_stock.specs.declared.font.Font.{Font}
use Rattle.micro_num.specs.declared.params.Params.{Params}
use Rattle.micro_num.specs.declared.shape.ShapeLine.{ShapeLine}
use Rattle.micro_num.specs.declared.tables.Tables.{Tables}
use Rattle.hlist.specs.declared.item.Item.{Item}
use Rattle.hlist_hyph.specs.Hyphenated.{Places, hyphenated_items}
use Rattle.line_break.specs.Pass.{Pass}
use Rattle.break_rule.specs.Fits.{Rule}
use Rattle.break_pass.specs.Passes.{pass_of}
use Rattle.line_break.specs.declared.node.Way.{Way}
use Rattle.line_break.specs.Taken.{Taken, is_taken, way_of, first_taken}
use Rattle.paragraph_breaks.specs.declared.broken.Breaks.{Breaks}
use Rattle.paragraph_breaks.specs.declared.broken.Broken.{Broken}

pub record Paragraph : Type 0 where
  pub items : List Item
  pub params : Params
  pub shape : List ShapeLine
  pub tables : Tables
  pub places : Places
  pub stock : List Font

unfoldable pub hyphenated_of : Paragraph → List Item
hyphenated_of p = hyphenated_items p.tables p.stock p.places p.items

-- what a pass over a list asks for
abbrev pub rule_over : List Item → Params → List ShapeLine → List Font → Bool → Rule
rule_over items params shape stock emergency =
    record { items = items; params = params; shape = shape; stock = stock; emergency = emergency }

-- A badness above 10000 is no badness that a line is judged by.
abbrev pub at_most_infinite : ℤ → ℤ
at_most_infinite threshold = int_min threshold (pos 10000)

-- the first pass, which a pretolerance below 0 leaves out
abbrev pub first_pass : List Item → Params → List ShapeLine → List Font → Pass
first_pass items params shape stock =
    pass_of (rule_over items params shape stock false) (at_most_infinite params.pretolerance) false

abbrev pub early_passes : List Item → Params → List ShapeLine → List Font → List (ℕ × Pass)
early_passes items params shape stock =
    if int_lt params.pretolerance (pos 0) then [] else (1, first_pass items params shape stock) ∷ []

-- The second pass is the last one where there is no emergency stretch, and else the third, in which
-- alone that counts.
abbrev pub second_pass : List Item → Params → List ShapeLine → List Font → Pass
second_pass items params shape stock =
    pass_of (rule_over items params shape stock false) (at_most_infinite params.tolerance)
    (int_le params.emergencystretch (pos 0))

abbrev pub third_pass : List Item → Params → List ShapeLine → List Font → Pass
third_pass items params shape stock =
    pass_of (rule_over items params shape stock true) (at_most_infinite params.tolerance) true

abbrev pub late_passes : List Item → Params → List ShapeLine → List Font → List (ℕ × Pass)
late_passes items params shape stock =
    (2, second_pass items params shape stock)
    ∷ (if int_le params.emergencystretch (pos 0) then []
    else (3, third_pass items params shape stock) ∷ [])

-- the passes that are tried, in their order
unfoldable pub passes_of : Paragraph → List (ℕ × Pass)
passes_of p =
    early_passes p.items p.params p.shape p.stock
    ++ late_passes (hyphenated_of p) p.params p.shape p.stock

-- the list that a pass of a number breaks
unfoldable pub items_of : Paragraph → ℕ → List Item
items_of p number = if number == 1 then p.items else hyphenated_of p

-- the way that a pass gives, where it is taken
unfoldable pub taken_way : Pass → ℤ → Option Way
taken_way q looseness = if is_taken q looseness then way_of q looseness else None

abbrev pub taken_by : Breaks → Taken
taken_by b = record { number = b.pass; breaks = b.places; total = b.total }

-- what the first of some passes gives that is taken
abbrev pub early_taken : List Item → Params → List ShapeLine → List Font → Option Taken
early_taken items params shape stock =
    first_taken params.looseness (early_passes items params shape stock)

abbrev pub late_taken : List Item → Params → List ShapeLine → List Font → Option Taken
late_taken items params shape stock =
    first_taken params.looseness (late_passes items params shape stock)

abbrev pub given_by : Broken → Taken
given_by b = record { number = b.pass; breaks = b.breaks; total = b.total }

-- What the first of the passes gives that is taken, with the list that this pass breaks.
pub record IsFirstTaken (p : Paragraph) (b : Broken) : Type 0 where
  pub list : b.list.items ≡ items_of p b.pass
  pub taken : first_taken p.params.looseness (passes_of p) ≡ Some (given_by b)
