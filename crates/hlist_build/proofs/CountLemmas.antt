-- Counts of what is ahead in a loop over parts or items.
use Rattle.std.proofs.Common.{◌≡◌, ℕ, ◌+◌, ◌<◌, ◌≤◌, List, length, get_or, drop}
use Rattle.std.proofs.lemmas.List.Sums.{get_or-le-sum_by, sum_by-drop_more}
use Rattle.std.proofs.lemmas.List.{at_drop_all}
use Rattle.hlist.specs.Counts.{item_weight, item_count}
use Rattle.hlist.specs.declared.item.Item.{Item}
use Rattle.micro_num.specs.declared.paragraph.PartAt.{PartAt}
use Rattle.hlist_build.specs.Counts.{part_weight, part_count}

pub part_count-turn : (parts : List PartAt) (i : ℕ) (d : PartAt) → i < length parts
    → part_count (drop i parts) ≡ part_weight (get_or parts i d).part + part_count (drop (i + 1) parts)
unfolding part_count
part_count-turn parts i d lt = sum_by-drop_more (λ one. part_weight one.part) parts i d lt

pub part_count-end : (parts : List PartAt) (i : ℕ) → length parts ≤ i → part_count (drop i parts) ≡ 0
unfolding part_count
part_count-end parts i le = at_drop_all (λ rest. part_count rest) parts i le

pub item_count-turn : (items : List Item) (i : ℕ) (d : Item) → i < length items
    → item_count (drop i items) ≡ item_weight (get_or items i d) + item_count (drop (i + 1) items)
unfolding item_count
item_count-turn items i d lt = sum_by-drop_more item_weight items i d lt

pub item_count-end : (items : List Item) (i : ℕ) → length items ≤ i → item_count (drop i items) ≡ 0
unfolding item_count
item_count-end items i le = at_drop_all (λ rest. item_count rest) items i le

-- a part counts among all
pub weight-le : (parts : List PartAt) (i : ℕ) (d : PartAt) → i < length parts → part_weight (get_or parts i d).part ≤ part_count parts
unfolding part_count
weight-le parts i d lt = get_or-le-sum_by (λ one. part_weight one.part) parts i d lt
