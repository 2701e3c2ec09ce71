-- How many parts a paragraph has, those in discretionaries counted.
use Rattle.std.specs.Prelude.{ℕ, ◌+◌, List, sum_by}
use Rattle.micro_num.specs.declared.paragraph.PartAt.{PartAt}
use Rattle.micro_num.specs.declared.part.Part.{Part}
use Rattle.micro_num.specs.declared.part.Part.TheVariants.{Disc}
use Rattle.hlist.specs.Counts.{entry_count}

-- a part counts once, and each code in a discretionary's lists besides
abbrev pub part_weight : Part → ℕ
part_weight (Disc lists) = 1 + entry_count lists
part_weight _ = 1

unfoldable pub part_count : List PartAt → ℕ
part_count parts = sum_by (λ one. part_weight one.part) parts
