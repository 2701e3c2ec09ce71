-- The rule of a list that is broken, by which its lines are made. These don't know of an emergency.
--     lines-calm             the lines of a rule are those of the rule without an emergency
--     place-calm             and so are its places
--     over_shape             what a list is broken by, where its shape is handed over by itself
--     short                  how many items a list has at most
--     broken-of, rule-of     what is known of a list that is broken as it stands
--     none-of                what is known of one that isn't
--     stock-is, params-are   what the rule is over
--     places, few, lengths   what lines ask of it
--     all-lines              its lines are those of the paragraph
--     late-is                a hyphenated list is broken as the later passes have it
use Rattle.std.proofs.Common.{◌≡◌, ℕ, ◌+◌, ◌≤◌, refl, ap, sym, ◌∙◌, subst, get_or, false, List, [], ◌∷◌, length, Option, Some, None, arith}
use Rattle.std.specs.Prelude.{All, IfNone, IfSome, sum_by}
use Rattle.std.proofs.lemmas.List.Sums.{sum_by-cons}
use Rattle.font_stock.specs.declared.font.Font.{Font}
use Rattle.hlist.specs.Bounds.{IsInBounds, unbroken_count, unbroken_weight}
use Rattle.hlist.specs.declared.item.HList.{HList}
use Rattle.hlist.specs.declared.item.Item.{Item}
use Rattle.hlist.specs.declared.item.Item.TheVariants.{Char, Lig, FontKern, Kern, Glue, Penalty, Disc, Box}
use Rattle.hlist_hyph.specs.Hyphenated.{Places, hyphenated_items}
use Rattle.micro_num.specs.declared.paragraph.Par.{Par}
use Rattle.micro_num.specs.declared.shape.ShapeLine.{ShapeLine}
use Rattle.micro_num.specs.declared.tables.Tables.{Tables}
use Rattle.break_rule.specs.Fits.{Rule}
use Rattle.break_rule.specs.Made.{IsPlace}
use Rattle.break_rule.specs.declared.line.From.{From}
use Rattle.break_rule.specs.declared.line.From.TheVariants.{Start, After}
use Rattle.instance_core.specs.declared.page.Packed.{Packed}
use Rattle.paragraph_breaks.specs.declared.broken.BrokenRule.{BrokenRule}
use Rattle.paragraph_breaks.specs.Outcome.{IsBroken, broken_as, without_emergency}
use Rattle.paragraph_breaks.specs.Passes.{Paragraph, early_taken, late_taken, rule_over, taken_by}
use Rattle.paragraph_breaks.proofs.BrokenLists.{late_broken}
use Rattle.para_workers.specs.Lengths.{HasLengths}
use Rattle.para_workers.specs.SetPar.{lines_of, paragraph_of, set_line_between, set_lines}
use Rattle.para_workers.proofs.LineCounts.{few-breaks}
use Rattle.para_workers.proofs.WholePages.{lines-are}

line-calm : (rule : Rule) (number : ℕ) (from : From) (to : ℕ)
    → set_line_between rule number from to ≡ set_line_between (without_emergency rule) number from to
unfolding set_line_between
line-calm rule number from to = refl

pub lines-calm : (rule : Rule) (number : ℕ) (from : From) (breaks : List ℕ)
    → set_lines rule number from breaks ≡ set_lines (without_emergency rule) number from breaks
unfolding set_lines
lines-calm rule number from [] = refl
lines-calm rule number from (to ∷ breaks) =
    ap (λ (line : Packed). line ∷ set_lines rule (number + 1) (After to) breaks) (line-calm rule number from to)
    ∙ ap (λ (rest : List Packed). set_line_between (without_emergency rule) number from to ∷ rest) (lines-calm rule (number + 1) (After to) breaks)

pub place-calm : (rule : Rule) (place : ℕ) → IsPlace (without_emergency rule) place → IsPlace rule place
place-calm rule place is = record { within = is.within; ends = is.ends }

abbrev pub over_shape : Par → Tables → Places → List Font → List Item → List ShapeLine → Paragraph
over_shape par tables hyphens stock items shape = record {
  items = items;
  params = par.params;
  shape = shape;
  tables = tables;
  places = hyphens;
  stock = stock;
}

weight-some : (item : Item) → 1 ≤ unbroken_weight item
weight-some (Char font code) = omega arith
weight-some (Lig font code covers) = omega arith
weight-some (FontKern width left) = omega arith
weight-some (Kern width) = omega arith
weight-some (Glue glue) = omega arith
weight-some (Penalty value) = omega arith
weight-some (Disc lists) = omega arith
weight-some (Box width) = omega arith

each-counts : (items : List Item) → length items ≤ unbroken_count items
unfolding unbroken_count
each-counts [] = let none : 0 ≤ sum_by unbroken_weight [] = omega arith in none
each-counts (item ∷ items) = omega (arith, weight-some item, each-counts items, sum_by-cons unbroken_weight item items)

pub short : (list : HList) → IsInBounds list → length list.items ≤ 65536
short list bounds = let long = each-counts list.items in omega (arith, long, bounds.few)

-- what is known of a list that is broken as it stands, or isn't
pub broken-of : (p : Paragraph) (list : HList) (found : Option BrokenRule) (b : BrokenRule) → found ≡ Some b
    → IfSome found (λ (x : BrokenRule). IsBroken p (broken_as list x.breaks)) → IsBroken p (broken_as list b.breaks)
broken-of p list found b is told =
    subst (λ (f : Option BrokenRule). IfSome f (λ (x : BrokenRule). IsBroken p (broken_as list x.breaks))) is told

pub rule-of : (rule : Rule) (found : Option BrokenRule) (b : BrokenRule) → found ≡ Some b
    → IfSome found (λ (x : BrokenRule). without_emergency x.rule ≡ rule) → without_emergency b.rule ≡ rule
rule-of rule found b is told = subst (λ (f : Option BrokenRule). IfSome f (λ (x : BrokenRule). without_emergency x.rule ≡ rule)) is told

pub none-of : (fact : Type 0) (found : Option BrokenRule) → found ≡ None → IfNone found fact → fact
none-of fact found is told = subst (λ (f : Option BrokenRule). IfNone f fact) is told

module _ (p : Paragraph) (list : HList) (b : BrokenRule) (is : IsBroken p (broken_as list b.breaks))
    (same : without_emergency b.rule ≡ rule_over list.items p.params p.shape p.stock false) where
  pub stock-is : b.rule.stock ≡ p.stock
  stock-is = ap (λ (r : Rule). r.stock) same

  pub params-are : b.rule.params ≡ p.params
  params-are = ap (λ (r : Rule). r.params) same

  pub places : All (IsPlace b.rule) b.breaks.places
  places k d within =
      place-calm b.rule (get_or b.breaks.places k d)
      (subst (λ (r : Rule). IsPlace r (get_or b.breaks.places k d)) (sym same) (is.ends.legal k d within))

  pub few : length list.items ≤ 65536 → length b.breaks.places ≤ 65537
  few within = few-breaks (rule_over list.items p.params p.shape p.stock false) b.breaks.places is.ends.legal is.ends.rise within

  pub lengths : HasLengths p.params p.shape → HasLengths b.rule.params b.rule.shape
  lengths has = subst (λ (r : Rule). HasLengths r.params r.shape) (sym same) has

  own-lines : set_lines b.rule 1 Start b.breaks.places ≡ lines_of p
  own-lines =
      lines-calm b.rule 1 Start b.breaks.places
      ∙ ap (λ (r : Rule). set_lines r 1 Start b.breaks.places) same
      ∙ lines-are p (broken_as list b.breaks) is

module _ (par : Par) (tables : Tables) (hyphens : Places) (stock : List Font) (items : List Item) (shape : List ShapeLine) (own : shape ≡ par.shape) where
  pub all-lines : (list : HList) (b : BrokenRule) → IsBroken (over_shape par tables hyphens stock items shape) (broken_as list b.breaks)
      → without_emergency b.rule ≡ rule_over list.items par.params shape stock false
      → set_lines b.rule 1 Start b.breaks.places ≡ lines_of (paragraph_of par tables hyphens stock items)
  all-lines list b is same =
      own-lines (over_shape par tables hyphens stock items shape) list b is same
      ∙ ap (λ (s : List ShapeLine). lines_of (over_shape par tables hyphens stock items s)) own

  pub late-is : (list : HList) (b : BrokenRule) → list.items ≡ hyphenated_items tables stock hyphens items
      → None ≡ early_taken items par.params par.shape stock → Some (taken_by b.breaks) ≡ late_taken list.items par.params shape stock
      → IsBroken (over_shape par tables hyphens stock items shape) (broken_as list b.breaks)
  late-is list b made none some =
      late_broken (over_shape par tables hyphens stock items shape) list b.breaks made
      (none ∙ ap (λ (s : List ShapeLine). early_taken items par.params s stock) (sym own)) some
