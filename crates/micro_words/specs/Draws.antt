-- The generator of random numbers: a linear congruential one modulo 2^31, started at the number of
-- the document.
--     next_state s         the state after one more step
--     drawn s              what is drawn at a state: its upper fifteen bits
--     state_after k s      the state after k steps
use Rattle.std.specs.Prelude.{ℕ, zero, suc, ◌+◌, ◌*◌, ◌/◌, ◌%◌}

unfoldable pub next_state : ℕ → ℕ
next_state s = (s * 1103515245 + 12345) % 2147483648

-- a number below 2^15
unfoldable pub drawn : ℕ → ℕ
drawn s = s / 65536

unfoldable pub state_after : ℕ → ℕ → ℕ
state_after zero s = s
state_after (suc k) s = state_after k (next_state s)
