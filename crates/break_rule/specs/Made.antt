-- What is kept of a list that breaking asks about, and the questions that it is kept for.
use Rattle.std.specs.Prelude.{◌≡◌, ℕ, ◌+◌, ◌<◌, ◌≤◌, ◌^◌, ⊤, unsigned_abs, List, map, length, All, true, Option}
use Rattle.std.specs.List.{range_with_len}
use Rattle.font_stock.specs.declared.expand.Expand.{Expand}
use Rattle.hlist.specs.declared.item.Item.{Item}
use Rattle.hlist.specs.Bounds.{BreaksShort, unbroken_count}
use Rattle.break_rule.specs.declared.line.From.{From}
use Rattle.break_rule.specs.declared.line.From.TheVariants.{Start, After}
use Rattle.break_rule.specs.declared.ends.Opening.{Opening}
use Rattle.break_rule.specs.declared.ends.Closing.{Closing}
use Rattle.break_rule.specs.declared.sums.Sums.{Sums}
use Rattle.break_rule.specs.Adding.{plus, sums_of_glue}
use Rattle.break_rule.specs.Places.{is_place, legal_of}
use Rattle.break_rule.specs.Fits.{Rule, shared_expansion}
use Rattle.break_rule.specs.Kept.{IsWithin, IsSmallOpening, IsSmallClosing, opening_of, closing_of, rank_of}
use Rattle.break_rule.specs.Over.{IsOver}

-- a place at which a line may end
pub record IsPlace (rule : Rule) (place : ℕ) : Type 0 where
  pub within : place ≤ length rule.items
  pub ends : is_place rule.params rule.items place ≡ true

-- where a line may begin: at the start, or behind a break at a legal place
abbrev pub IsFrom : Rule → From → Type 0
IsFrom rule Start = ⊤
IsFrom rule (After at) = IsPlace rule at

pub record Keeping : Type 0 where
  pub expand : Option Expand
  pub margins : Sums
  pub legal : List ℕ
  pub ranks : List ℕ
  pub start : Opening
  pub openings : List Opening
  pub closings : List Closing

pub record IsMade (rule : Rule) (kept : Keeping) : Type 0 where
  pub over : IsOver rule.stock rule.items
  pub breaks : All BreaksShort rule.items
  pub few : unbroken_count rule.items ≤ 65536
  pub short : length rule.items ≤ 65536
  pub hsize : unsigned_abs rule.params.hsize < 2 ^ 30
  pub hangindent : unsigned_abs rule.params.hangindent < 2 ^ 30
  pub expand : kept.expand ≡ shared_expansion rule.stock rule.items
  pub margins : kept.margins ≡ plus (sums_of_glue rule.params.leftskip) (sums_of_glue rule.params.rightskip)
  pub margins_small : IsWithin 2 kept.margins
  pub legal : kept.legal ≡ legal_of rule.params rule.items
  pub ranks : kept.ranks ≡ map (rank_of rule.params rule.items) (range_with_len 0 (length rule.items + 1))
  pub start : kept.start ≡ opening_of rule.stock rule.items Start
  pub start_small : IsSmallOpening kept.start
  pub openings : kept.openings ≡ map (λ at. opening_of rule.stock rule.items (After at)) (legal_of rule.params rule.items)
  pub openings_small : All IsSmallOpening kept.openings
  pub closings : kept.closings ≡ map (closing_of rule.params rule.stock rule.items) (legal_of rule.params rule.items)
  pub closings_small : All IsSmallClosing kept.closings

-- a break at a place of the list
abbrev pub IsWithinList : List Item → From → Type 0
IsWithinList items Start = ⊤
IsWithinList items (After at) = at ≤ length items
