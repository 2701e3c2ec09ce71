-- One font more is looked at.
use Rattle.std.proofs.Common.{◌≡◌, arith, sym, ◌∙◌, ap}
use Rattle.hlist_build.proofs.MixLemmas.{found, coming-turn, coming-end, found-nothing, passes, begins, goes_on, differs, is-none, after-in-stock}
use Rattle.hlist_build.proofs.mixing.first_other.Goals.{in-Some+in-None, in-Some+in-Some-first+else-not-expand_alike, in_default}
use Rattle.hlist_build.proofs.mixing.first_other.Goals as goal

pub returns-then-not-expand_alike : goal.returns-then-not-expand_alike
returns-then-not-expand_alike c =
    let turn = rw (← c.expanding_in.ensures) at (coming-turn c.args.stock.now c.loop-one.font c.args.parts.now c.loop-one.one-index c.one-item.result (omega arith) c.one-item.is) in
    sym (differs c.loop-one.first c.expanding_in.result c.in-Some.here c.in-Some-first.known _ _ turn c.in-Some.is c.in-Some-first.is
    (sym c.if-not-expand_alike.ensures)) ∙ c.loop-one.invariant.so_far

pub loop-one-preserved : goal.loop-one-preserved
loop-one-preserved c =
    let parts = c.args.parts.now in
    let i = c.loop-one.one-index in
    let one = c.one-item.result in
    let first = c.loop-one.first in
    let known = c.match-expanding_in.first in
    let here = c.expanding_in.result in
    let turn = rw (← c.expanding_in.ensures, ← c.font_after-font.ensures) at (coming-turn c.args.stock.now c.loop-one.font parts i one (omega arith) c.one-item.is) in
    record {
      so_far = elim c.match-expanding_in.branch [
        | in-Some+in-None w ↦ begins first known here w.in-Some.here _ _ turn w.in-Some.is w.in-None.is w.first-is
        | in-Some+in-Some-first+else-not-expand_alike w ↦
            goes_on first known here w.in-Some.here w.in-Some-first.known _ _ turn w.in-Some.is w.in-Some-first.is
            (sym w.if-not-expand_alike.ensures) w.first-is
        | in_default w ↦ passes first known here _ _ turn (is-none here w.in_default.not-Some) w.first-is
      ] ∙ c.loop-one.invariant.so_far;
      in_stock = rw c.font_after-font.ensures
          (after-in-stock _ c.loop-one.font one.part c.loop-one.invariant.in_stock (rw (← c.one-item.is) at (c.requires i one c.loop-one-test.true)));
    }

pub returns : goal.returns
returns c =
    let none = coming-end c.args.stock.now c.loop-one.font c.args.parts.now c.loop-one.one-index (omega arith) in
    sym (found-nothing c.loop-one.first) ∙ ap (found c.loop-one.first) (sym none) ∙ c.loop-one.invariant.so_far
