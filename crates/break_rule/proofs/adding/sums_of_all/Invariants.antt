use Rattle.std.proofs.Common.{◌≡◌, ℕ, List, take}
use Rattle.font_stock.specs.declared.font.Font.{Font}
use Rattle.hlist.specs.declared.item.Sub.{Sub}
use Rattle.break_rule.specs.declared.sums.Sums.{Sums}
use Rattle.break_rule.specs.Adding.{added_subs}
use Rattle.break_rule.specs.Kept.{IsWithin}
use Rattle.break_rule.proofs.adding.sums_of_all.Given as goal

-- what the entries so far add, and how large that is
pub record Keeps (stock : List Font) (subs : List Sub) (index : ℕ) (sums : Sums) : Type 0 where
  pub exact : sums ≡ added_subs stock (take index subs)
  pub small : IsWithin index sums

abbrev pub invariant-loop-sub : goal.invariant-loop-sub
invariant-loop-sub l = Keeps l.stock l.subs l.sub-index l.sums
