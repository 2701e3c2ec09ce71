use Rattle.std.proofs.Common.{◌≡◌, drop}
use Rattle.dvi_write.specs.Commands.{spell_all}
use Rattle.dvi_write.specs.Document.{definitions_from}
use Rattle.dvi_write.specs.Output.{grown}
use Rattle.dvi_write.proofs.file.put_definitions.Given as goal

-- the fonts from this number on are defined
abbrev pub invariant-loop-number : goal.invariant-loop-number
invariant-loop-number l = l.out ≡ grown l.initial.out (spell_all (definitions_from l.rows l.number (drop l.number l.cells)))
