-- What the settings of a font are kept to (pdfTeX manual, `\lpcode`, `\efcode` and `\pdffontexpand`).
use Rattle.std.specs.Prelude.{◌≡◌, ℕ, ◌+◌, ◌/◌, ◌%◌, ◌≤◌, ℤ, pos, neg_ℤ, ◌≤ℤ◌}

-- a hang in thousandths of the quad
pub record IsHang (hang : ℤ) : Type 0 where
  pub low : neg_ℤ (pos 1000) ≤ℤ hang
  pub high : hang ≤ℤ pos 1000

-- a character's share in its font's expansion, in thousandths
abbrev pub IsFactor : ℕ → Type 0
IsFactor factor = factor ≤ 1000

-- how far a font may stretch and shrink, in thousandths, both in whole steps, of which there are at most 128
pub record AreLimits (stretch shrink step : ℕ) : Type 0 where
  pub stretch_fits : stretch ≤ 1000
  pub shrink_fits : shrink ≤ 500
  pub step_starts : 1 ≤ step
  pub step_fits : step ≤ 100
  pub stretch_whole : stretch % step ≡ 0
  pub shrink_whole : shrink % step ≡ 0
  pub few : (stretch + shrink) / step ≤ 128
