use Rattle.std.proofs.Common.{◌≡◌, length, drop}
use Rattle.micro_document.proofs.Steps.{FontsGiven}
use Rattle.micro_document.proofs.generated.given_fonts.Given as goal

-- what the job comes to behind the fonts that are left it comes to
abbrev pub invariant-loop-decl : goal.invariant-loop-decl
invariant-loop-decl l = record {
  left : FontsGiven l.job l.bytes l.fonts.items (drop l.decl-index l.decl-items);
  count : length l.fonts.items ≡ l.decl-index;
}
