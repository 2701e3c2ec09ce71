-- No file so far has the name.
use Rattle.std.proofs.Common.{◌≡◌, ◌<◌, ℕ, slice_index_or}
use Rattle.outside_io.proofs.memory_shelf.MemShelf.find.Given as goal

abbrev pub invariant-loop-file : goal.invariant-loop-file
invariant-loop-file l =
    (k : ℕ) (d : _) → k < l.file-index → (slice_index_or l.self.files k d).0 ≡ l.name → ⊥
