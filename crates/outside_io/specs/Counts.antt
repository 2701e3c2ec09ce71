-- How a count moves, in words of this project's own. A count is one machine word, so it stands still at 2^64 - 1.
use Rattle.std.specs.Prelude.{◌≡◌, ℕ, ◌+◌, ◌-◌, ◌^◌, ◌≤◌, min}

-- it rose: it is greater than before, or stands at its end
abbrev pub Rose : ℕ → ℕ → Type 0
Rose before after = min (before + 1) (2 ^ 64 - 1) ≤ after

-- it rose by n, or to its end
abbrev pub RisesBy : ℕ → ℕ → ℕ → Type 0
RisesBy n before after = after ≡ min (before + n) (2 ^ 64 - 1)
