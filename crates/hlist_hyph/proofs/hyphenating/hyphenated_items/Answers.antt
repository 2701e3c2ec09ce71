-- One item more is copied, and behind a glue all that follows it up to the end of its word.
use Rattle.std.proofs.Common.{◌+◌, rules, arith, ap, sym, ◌∙◌}
use Rattle.hlist_hyph.specs.Hyphenated.{places_in, is_glue}
use Rattle.hlist_hyph.proofs.LoopLemmas.{tail-range, longer, whole, plain-turn, glue-step, from-end, not_glue, one-more}
use Rattle.hlist_hyph.proofs.hyphenating.hyphenated_items.Goals as goal

pub loop-at-preserved-in-Glue : goal.loop-at-preserved-in-Glue
loop-at-preserved-in-Glue c = (
  glue-step c.args.tables.now c.args.stock.now (places_in c.args.patterns.now c.args.params.now) c.args.items.now _ c.loop-at.at
      c.in_ok-at.field-0 c.index-items-at.result c.in_ok-copy_item.field-0 c.loop-at.list c.push.new.self c.push_front.new.list _
      c.loop-at-test.true c.index-items-at.is (ap is_glue c.in-Glue.is) c.in_ok-copy_item.ensures
      (tail-range (c.loop-at.at + 1) c.args.items.now) c.in_ok-push.ensures.ok c.in_ok-at.ensures.put c.in_ok-at.ensures.exact
      c.loop-at.invariant.0,
  search rules,
)

pub loop-at-preserved : goal.loop-at-preserved
loop-at-preserved c =
    let lt = c.loop-at-test.true in (
      longer c.push.new.self c.loop-at.list _ _ _ _ (one-more _ _ _ _ c.in_ok-push.ensures.ok c.in_ok-copy_item.ensures)
          (plain-turn c.args.tables.now c.args.stock.now (places_in c.args.patterns.now c.args.params.now) c.args.items.now c.loop-at.at
          c.index-items-at.result lt c.index-items-at.is (not_glue c.index-items-at.result c.in_default.not-Glue))
          c.loop-at.invariant.0,
      omega (arith, lt),
    )

pub returns : goal.returns
returns c =
    whole _ _ _
    (from-end c.args.tables.now c.args.stock.now (places_in c.args.patterns.now c.args.params.now) c.args.items.now c.loop-at.at (omega arith))
    c.loop-at.invariant.0
