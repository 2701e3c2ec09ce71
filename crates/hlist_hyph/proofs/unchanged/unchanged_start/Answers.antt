-- One item, or a glue with what follows it.
use Rattle.std.proofs.Common.{◌≡◌, ◌≤◌, ap, arith}
use Rattle.hlist_hyph.specs.Hyphenated.{places_in, is_glue}
use Rattle.hlist_hyph.proofs.LoopLemmas.{tail-range, not_glue}
use Rattle.hlist_hyph.proofs.SilentWords.{glue-found, plain-same}
use Rattle.hlist_hyph.proofs.unchanged.unchanged_start.Goals as goal

pub returns-in-Some-clause-same : goal.returns-in-Some-clause-same
returns-in-Some-clause-same c =
    glue-found c.args.tables.now c.args.stock.now (places_in c.args.patterns.now c.args.params.now) c.args.items.now c.in_ok-count-in-Glue.field-0 c.in-Some.count
    c.index-items-0.result _ c.requires.some c.index-items-0.is (ap is_glue c.in-Glue.is) (tail-range 1 c.args.items.now) c.in-Some.is
    c.in_ok-count-in-Glue.ensures.same c.in_ok-count-in-Glue.ensures.exact

pub returns-in_default : goal.returns-in_default
returns-in_default c =
    record {
      same =
          plain-same c.args.tables.now c.args.stock.now (places_in c.args.patterns.now c.args.params.now) c.args.items.now c.index-items-0.result
          c.requires.some c.index-items-0.is (not_glue c.index-items-0.result c.in_default.not-Glue);
      some = omega arith;
      within = omega (arith, c.requires.some);
    }
