use Rattle.outside_io.specs.Reading.{NamesDiffer}
use Rattle.conformance.proofs.documents.files_of.Given as goal

abbrev pub invariant-loop-decl : goal.invariant-loop-decl
invariant-loop-decl g l = NamesDiffer l.files
