-- How badly a line's glue is stretched or shrunk (TeX: The Program, section 108).
use Rattle.std.specs.Prelude.{◌≡◌, refl, ℕ, zero, suc, ◌+◌, ◌*◌, ◌/◌, nat_le, nat_lt, if◌then◌else◌, ℤ, pos, unsigned_abs}

-- the ratio 297t/s, in which no product is past 2^31. Its cube over 2^18 is nearly 100(t/s)^3
abbrev pub stretch_ratio : ℕ → ℕ → ℕ
stretch_ratio t s =
    if nat_le t 7230584 then 297 * t / s
    else (if nat_le 1663497 s then t / (s / 297) else t)

-- the badness of a ratio: the rounded cube over 2^18, and 10000 past 1290
abbrev pub badness_of_ratio : ℕ → ℕ
badness_of_ratio r = if nat_lt 1290 r then 10000 else (r * r * r + 131072) / 262144

-- the badness of t sp to be made up for by s sp of stretch or shrink: 0 where there is nothing to make up
-- for, and 10000 where there is something and nothing to do it with
unfoldable pub badness_of : ℤ → ℤ → ℕ
badness_of (pos zero) s = 0
badness_of t (pos (suc s)) = badness_of_ratio (stretch_ratio (unsigned_abs t) (suc s))
badness_of t s = 10000

-- three lines: one stretched as far as its glue says, one just past the exact range of the ratio, and one
-- past it with too little glue for the division
pub fully_stretched : badness_of (pos 7230584) (pos 7230584) ≡ 100
unfolding badness_of
fully_stretched = refl

pub past_exact_range : badness_of (pos 7230585) (pos 7230585) ≡ 100
unfolding badness_of
past_exact_range = refl

pub past_exact_range_with_little : badness_of (pos 7230585) (pos 1663496) ≡ 10000
unfolding badness_of
past_exact_range_with_little = refl
