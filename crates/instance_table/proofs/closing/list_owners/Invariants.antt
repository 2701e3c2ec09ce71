use Rattle.std.proofs.Common.{◌≡◌, ◌≤◌, ◌<◌, vec_len, vec_capacity}
use Rattle.instance_table.specs.Closing.{owners_of, named_below}
use Rattle.instance_table.proofs.closing.list_owners.Given as goal

abbrev pub invariant-loop-cell : goal.invariant-loop-cell
invariant-loop-cell l = record {
  listed : l.owners.items ≡ owners_of l.fn.bases (named_below l.fn.builders l.cell);
  room : vec_capacity l.owners ≡ vec_capacity l.initial.owners;
  few : vec_len l.owners ≤ l.cell;
}
