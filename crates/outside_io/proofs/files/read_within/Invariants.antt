-- Each turn reads at least one byte, and the loop stops above the limit.
use Rattle.std.proofs.Common.{◌+◌, ◌-◌, vec_len}
use Rattle.std.specs.Io.KnownBytes.{Consumes}
use Rattle.outside_io.proofs.files.read_within.Given as goal

-- the bytes so far were taken from the reader
abbrev pub invariant-loop-piece : goal.invariant-loop-piece
invariant-loop-piece g l = Consumes (g.F.Read.remaining l.fn.reader) (g.F.Read.remaining l.reader) l.bytes.items

abbrev pub decreases-loop-piece : goal.decreases-loop-piece
decreases-loop-piece g l = l.limit + 1 - vec_len l.bytes
