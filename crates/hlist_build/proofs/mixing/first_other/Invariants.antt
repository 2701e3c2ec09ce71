use Rattle.std.proofs.Common.{◌≡◌, ◌<◌, length, drop}
use Rattle.std.specs.Option.{ForSome}
use Rattle.std.specs.Prelude.{None}
use Rattle.hlist_build.proofs.MixLemmas.{found, coming}
use Rattle.hlist_build.proofs.mixing.first_other.Given as goal

abbrev pub invariant-loop-one : goal.invariant-loop-one
invariant-loop-one l = record {
  so_far : found l.first (coming l.stock l.font (drop l.one-index l.parts)) ≡ found None (coming l.stock None l.parts);
  in_stock : ForSome l.font (λ number. number < length l.stock);
}
