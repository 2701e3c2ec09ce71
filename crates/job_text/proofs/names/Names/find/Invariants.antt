use Rattle.std.proofs.Common.{◌≡◌, drop}
use Rattle.job_text.specs.Names.{font_from, font_named}
use Rattle.job_text.proofs.names.Names.find.Given as goal

abbrev pub invariant-loop-font : goal.invariant-loop-font
invariant-loop-font l = (l.own-items ≡ l.self) × (font_from l.font (drop l.font l.own-items) l.name ≡ font_named l.self l.name)
