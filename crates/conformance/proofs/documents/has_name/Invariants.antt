use Rattle.std.specs.Prelude.{◌≢◌, List, ℕ}
use Rattle.std.specs.List.{AllWithin}
use Rattle.conformance.proofs.documents.has_name.Given as goal

-- no file before this one has the name
abbrev pub invariant-loop-file : goal.invariant-loop-file
invariant-loop-file l = AllWithin (λ (file : List ℕ × List ℕ). file.0 ≢ l.name) l.files 0 l.file-index
