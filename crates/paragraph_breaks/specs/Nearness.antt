-- Groups of lines by how many lines more they end with than the best way, where each line is a group
-- of its own.
--     excess                 how many lines more
--     distance               how far that is from looseness
--     closer                 the closer of two groups, the first at the same distance
use Rattle.std.specs.Prelude.{ℕ, ℤ, pos, ◌-ℤ◌, nat_lt, unsigned_abs, if◌then◌else◌, Option, Some, None}

abbrev pub excess : ℕ → ℕ → ℤ
excess best group = pos group -ℤ pos best

abbrev pub distance : ℤ → ℕ → ℕ → ℕ
distance looseness best group = unsigned_abs (looseness -ℤ excess best group)

abbrev pub closer : ℤ → ℕ → ℕ → Option ℕ → ℕ
closer looseness best group None = group
closer looseness best group (Some other) =
    if nat_lt (distance looseness best other) (distance looseness best group) then other else group
