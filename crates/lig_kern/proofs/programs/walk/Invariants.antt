-- The rest of the walk finds what the whole finds.
use Rattle.std.proofs.Common.{◌≡◌, ◌-◌, length}
use Rattle.lig_kern.specs.Programs.{walk}
use Rattle.lig_kern.proofs.programs.walk.Given as goal

abbrev pub invariant-loop-place : goal.invariant-loop-place
invariant-loop-place l = walk l.code l.place l.words ≡ walk l.code l.start l.words

abbrev pub decreases-loop-place : goal.decreases-loop-place
decreases-loop-place l = length l.words - l.place
