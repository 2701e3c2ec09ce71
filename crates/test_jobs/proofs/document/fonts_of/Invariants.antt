use Rattle.std.proofs.Common.{◌≡◌, length}
use Rattle.test_jobs.proofs.document.fonts_of.Given as goal

-- there is a font for each declaration before this one
abbrev pub invariant-loop-decl : goal.invariant-loop-decl
invariant-loop-decl l = length l.fonts.items ≡ l.decl-index
