use Rattle.std.proofs.Common.{◌≡◌, ◌<◌, drop}
use Rattle.hlist_build.specs.Parts.{factor_from}
use Rattle.hlist_build.proofs.space.factor_from.Given as goal

abbrev pub invariant-loop-code : goal.invariant-loop-code
invariant-loop-code l = record {
  rest : factor_from l.tables l.now (drop l.code-index l.codes) ≡ factor_from l.tables l.fn.factor l.codes;
  positive : 0 < l.now;
}
