-- Where a ligature stands in its run.
use Rattle.std.specs.Prelude.{ℕ, ◌≤◌, ⊤}
use Rattle.lig_kern.specs.declared.glyph.Glyph.{Glyph}
use Rattle.lig_kern.specs.declared.glyph.Glyph.TheVariants.{Char, Lig, Kern}

-- the codes that a ligature stands for are those from a number to another, among n codes
abbrev pub IsWithin : ℕ → Glyph → Type 0
IsWithin n (Char code at) = ⊤
IsWithin n (Lig code from to) = (from ≤ to) × (to ≤ n)
IsWithin n (Kern fix) = ⊤
