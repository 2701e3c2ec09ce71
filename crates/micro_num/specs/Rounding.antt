-- Quotients of whole numbers, rounded and cut.
use Rattle.std.specs.Prelude.{ℕ, suc, ◌+◌, ◌*◌, ◌/◌, ℤ, pos, negsuc, neg_ℤ, int_div}

-- the whole number nearest to n/d, for natural numbers; a half goes up
abbrev pub nearest : ℕ → ℕ → ℕ
nearest n d = (2 * n + d) / (2 * d)

-- the whole number nearest to n/d; a half goes away from zero
abbrev pub rounded : ℤ → ℤ → ℤ
rounded (pos n) (pos d) = pos (nearest n d)
rounded (pos n) (negsuc d) = neg_ℤ (pos (nearest n (suc d)))
rounded (negsuc n) (pos d) = neg_ℤ (pos (nearest (suc n) d))
rounded (negsuc n) (negsuc d) = pos (nearest (suc n) (suc d))

-- n/d cut toward zero
abbrev pub truncated : ℤ → ℤ → ℤ
truncated n d = int_div n d
