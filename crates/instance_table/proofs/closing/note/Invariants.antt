use Rattle.std.proofs.Common.{◌≡◌, ◌≤◌, ◌<◌, vec_len, take}
use Rattle.instance_table.specs.Closing.{IsNoted}
use Rattle.instance_table.proofs.closing.note.Given as goal

abbrev pub invariant-loop-claimed : goal.invariant-loop-claimed
invariant-loop-claimed l = record {
  noted : IsNoted l.builders.items (take l.claimed-index l.fn.claims);
  kept : vec_len l.builders ≡ vec_len l.initial.builders;
}
