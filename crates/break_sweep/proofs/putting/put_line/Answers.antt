use Rattle.std.proofs.Common.{true, false, List, sym, subst, arith}
use Rattle.std.specs.List.{All}
use Rattle.std.specs.declared.cmp.Ordering.TheVariants.{Less, Equal, Greater}
use Rattle.break_sweep.specs.declared.made.Made.{Made}
use Rattle.break_sweep.specs.Made.{IsFound}
use Rattle.break_sweep.proofs.PutLines.{IsAt, put_less_at, put_same_at, put_end_at, all_inserted, lower_more}
use Rattle.break_sweep.proofs.putting.put_line.Goals as goal

pub loop-i-preserved : goal.loop-i-preserved
loop-i-preserved c =
    let at : IsAt c.args.ended c.args.line c.args.best.now.items c.loop-i.best.items c.loop-i.i c.index-other.result.now Greater = record {
      same = c.loop-i.invariant.0;
      within = omega (arith, c.args.best.now.ok.0);
      low = c.loop-i.invariant.1;
      read = c.index-other.ensures;
      compared = c.in-Greater.ensures;
    } in
    (c.loop-i.invariant.0, lower_more _ _ _ _ _ _ at)

pub returns-in-Less-clause-put : goal.returns-in-Less-clause-put
returns-in-Less-clause-put c = λ q ws e.
    let at : IsAt c.args.ended c.args.line c.args.best.now.items c.loop-i.best.items c.loop-i.i c.index-other.result.now Less = record {
      same = c.loop-i.invariant.0;
      within = omega (arith, c.args.best.now.ok.0);
      low = c.loop-i.invariant.1;
      read = c.index-other.ensures;
      compared = c.in-Less.ensures;
    } in
    put_less_at q ws c.args.line c.args.ended _ _ _ _ _ at c.in_ok-insert-in-Less.ensures.items e

pub returns-in-Less-clause-found : goal.returns-in-Less-clause-found
returns-in-Less-clause-found c = λ to n h all.
    let P : List Made → Type 0 = All (IsFound to n) in
    subst P (sym c.in_ok-insert-in-Less.ensures.items) (all_inserted (IsFound to n) c.loop-i.best.items c.loop-i.i c.args.line h (subst P (sym c.loop-i.invariant.0) all))

pub returns-then-is_no_higher-clause-put : goal.returns-then-is_no_higher-clause-put
returns-then-is_no_higher-clause-put c = λ q ws e.
    let at : IsAt c.args.ended c.args.line c.args.best.now.items c.loop-i.best.items c.loop-i.i c.index-other.result.now Equal = record {
      same = c.loop-i.invariant.0;
      within = omega (arith, c.args.best.now.ok.0);
      low = c.loop-i.invariant.1;
      read = c.index-other.ensures;
      compared = c.in-Equal.ensures;
    } in
    put_same_at q ws c.args.line c.args.ended _ _ _ _ true at (sym c.if-is_no_higher.ensures) e

pub returns-else-is_no_higher-clause-put : goal.returns-else-is_no_higher-clause-put
returns-else-is_no_higher-clause-put c = λ q ws e.
    let at : IsAt c.args.ended c.args.line c.args.best.now.items c.loop-i.best.items c.loop-i.i c.index-other.result.now Equal = record {
      same = c.loop-i.invariant.0;
      within = omega (arith, c.args.best.now.ok.0);
      low = c.loop-i.invariant.1;
      read = c.index-other.ensures;
      compared = c.in-Equal.ensures;
    } in
    put_same_at q ws c.args.line c.args.ended _ _ _ _ false at (sym c.if-is_no_higher.ensures) e

pub returns-clause-put : goal.returns-clause-put
returns-clause-put c = λ q ws e. put_end_at q ws c.args.line c.args.ended _ _ _ _ c.loop-i.invariant.0 (omega (arith, c.args.best.now.ok.0)) c.loop-i.invariant.1 c.in_ok-push.ensures.items e
