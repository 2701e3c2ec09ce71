-- The turns of the loop over parts.
use Rattle.std.proofs.Common.{◌≡◌, ◌+◌, ◌-◌, ◌++◌, ◌<◌, ◌≤◌, ◌⊎◌, [], length, take, drop, arith, sym, subst, ◌∙◌, ap, refl, inl, inr, length-drop, rules}
use Rattle.std.proofs.lemmas.List.{drop_all}
use Rattle.std.specs.Prelude.{Err, Ok}
use Rattle.hlist_build.specs.Given.{behind, given_behind}
use Rattle.hlist_build.specs.Parts.{run_codes, factor_from, factor_before, NamesFont}
use Rattle.hlist_build.specs.Spaces.{current_before}
use Rattle.hlist_build.specs.declared.fault.ParFault.TheVariants.{NoMemory}
use Rattle.hlist_build.proofs.CountLemmas.{weight-le}
use Rattle.hlist_build.proofs.PartLemmas.{run-le, run-ends}
use Rattle.hlist_build.proofs.TurnLemmas.{slice-rest, length-le-count, run-moves, run-stops, run-begins, run-current, run-factor, take-run, drop-run, font-moves, font-code, all-done, no-code, no-font, font-of, sets-current, single-moves, single-stops, keeps-current, keeps-factor, ends-run}
use Rattle.hlist_build.proofs.building.push_parts.Goals as goal

pub push_run-requires-clause-few : goal.push_run-requires-clause-few
push_run-requires-clause-few c =
    let parts = c.args.parts.now in
    let i = c.loop-at.at in
    let whole = slice-rest parts i in
    let codes : c.run_codes.new.codes.items ≡ run_codes (drop i parts) = rw whole at c.in_ok-run_codes-in-Char.ensures in
    let count : length c.deref.result.now ≡ length (run_codes (drop i parts)) = ap (λ l. length l) (c.deref.ensures.value ∙ codes) in
    omega (arith, count, run-le (drop i parts), length-drop i parts, length-le-count parts, c.requires.few)

pub loop-at-preserved-in-Char : goal.loop-at-preserved-in-Char
loop-at-preserved-in-Char c =
    let params = c.args.params.now in
    let tables = c.args.tables.now in
    let stock = c.args.stock.now in
    let parts = c.args.parts.now in
    let i = c.loop-at.at in
    let n = c.len-at.result in
    let inv = c.loop-at.invariant in
    let whole = slice-rest parts i in
    let codes : c.run_codes.new.codes.items ≡ run_codes (drop i parts) = rw whole at c.in_ok-run_codes-in-Char.ensures in
    let count : n ≡ length (run_codes (drop i parts)) =
    c.len-at.ensures ∙ sym c.deref-in-Char.ensures.len ∙ ap (λ l. length l) (c.deref-in-Char.ensures.value ∙ codes) in
    let front = take-run parts i n ∙ ap (λ k. take i parts ++ take k (drop i parts)) count in
    let put = rw (whole, inv.current) at c.in_ok-push_run-in-Char.ensures.ok in
    record {
      within = omega (arith, count, run-le (drop i parts), length-drop i parts, c.loop-at-test.true);
      so_far = run-moves params tables stock parts i _ c.loop-at-test.true c.in-Char.code n _ _ _
          c.in-Char.is count inv.fresh put inv.so_far;
      current = inv.current ∙ sym (ap (current_before params stock) front ∙ run-current params stock (take i parts) (drop i parts));
      in_stock = inv.in_stock;
      factor = c.factor_from-factor.ensures.exact
          ∙ ap (λ f. factor_from tables f c.deref-in-Char.result.now) inv.factor
          ∙ ap (λ l. factor_from tables (factor_before tables (take i parts)) l) (c.deref-in-Char.ensures.value ∙ codes)
          ∙ sym (ap (factor_before tables) front ∙ run-factor tables (take i parts) (drop i parts));
      positive = c.factor_from-factor.ensures.positive;
      fresh = λ on. rw (drop-run parts i n, count) (run-ends (drop i parts));
    }

pub loop-at-smaller-in-Char : goal.loop-at-smaller-in-Char
loop-at-smaller-in-Char c =
    let parts = c.args.parts.now in
    let i = c.loop-at.at in
    let n = c.len-at.result in
    let whole = slice-rest parts i in
    let codes : c.run_codes.new.codes.items ≡ run_codes (drop i parts) = rw whole at c.in_ok-run_codes-in-Char.ensures in
    let count : n ≡ length (run_codes (drop i parts)) =
    c.len-at.ensures ∙ sym c.deref-in-Char.ensures.len ∙ ap (λ l. length l) (c.deref-in-Char.ensures.value ∙ codes) in
    let some = run-begins c.args.params.now c.args.tables.now c.args.stock.now parts i _ c.loop-at-test.true c.in-Char.code c.in-Char.is in
    let small : length parts - (i + n) < length parts - i = omega (arith, count, some, c.loop-at-test.true) in
    small

pub loop-at-preserved-in-Font : goal.loop-at-preserved-in-Font
loop-at-preserved-in-Font c =
    let params = c.args.params.now in
    let tables = c.args.tables.now in
    let stock = c.args.stock.now in
    let parts = c.args.parts.now in
    let i = c.loop-at.at in
    let inv = c.loop-at.invariant in
    let lt = c.loop-at-test.true in
    let is = c.in-Font.is in
    let none = font-code _ c.in-Font.font is in
    record {
      within = omega (arith, lt);
      so_far = font-moves params tables stock parts i _ lt c.in-Font.font _ _ is inv.so_far;
      current = sym (sets-current params tables stock parts i _ lt c.in-Font.font _ is c.current_in.ensures.exact);
      in_stock = λ x same. font-of c.current_in.result x c.in-Font.font _ c.current_in.ensures.own
          (subst (NamesFont (length stock)) is (c.requires.fonts i _ lt)) same;
      factor = inv.factor ∙ sym (keeps-factor params tables stock parts i _ lt none);
      positive = inv.positive;
      fresh = ends-run params tables stock parts i _ lt none;
    }

pub push_single-requires : goal.push_single-requires
push_single-requires c =
    let weight = weight-le c.args.parts.now c.loop-at.at c.index-parts-at.result (omega arith) in
    record { few = omega (arith, rw (← c.index-parts-at.is) at weight, c.requires.few); font = c.loop-at.invariant.in_stock; factor = c.loop-at.invariant.positive }

pub loop-at-preserved : goal.loop-at-preserved
loop-at-preserved c =
    let params = c.args.params.now in
    let tables = c.args.tables.now in
    let stock = c.args.stock.now in
    let parts = c.args.parts.now in
    let i = c.loop-at.at in
    let inv = c.loop-at.invariant in
    let lt = c.loop-at-test.true in
    let one = c.index-parts-at.result in
    let is = c.index-parts-at.is in
    let none = no-code parts i one _ lt is c.in_default.not-Char in
    let other = no-font parts i one _ lt is c.in_default.not-Font in
    let put = rw (is, inv.current, inv.factor) at c.in_ok-push_single-in_default.ensures.ok in
    record {
      within = omega (arith, lt);
      so_far = single-moves params tables stock parts i one lt _ _ _ none put inv.so_far;
      current = inv.current ∙ sym (keeps-current params tables stock parts i one lt other);
      in_stock = inv.in_stock;
      factor = inv.factor ∙ sym (keeps-factor params tables stock parts i one lt none);
      positive = inv.positive;
      fresh = ends-run params tables stock parts i one lt none;
    }

pub returns-clause-ok : goal.returns-clause-ok
returns-clause-ok c =
    let parts = c.args.parts.now in
    let i = c.loop-at.at in
    all-done c.args.params.now c.args.tables.now c.args.stock.now (take i parts) (drop i parts) c.loop-at.list _
    (drop_all i parts c.loop-at-test.false) c.loop-at.invariant.so_far

pub returns-in_err-push_run-in-Char-clause-err : goal.returns-in_err-push_run-in-Char-clause-err
returns-in_err-push_run-in-Char-clause-err c =
    let parts = c.args.parts.now in
    let i = c.loop-at.at in
    let inv = c.loop-at.invariant in
    let fault = c.in_err-push_run-in-Char.field-0.0 in
    let known : (given_behind c.args.params.now c.args.tables.now c.args.stock.now [] parts ≡ Err fault) ⊎ (fault ≡ NoMemory) =
    elim (rw (slice-rest parts i, inv.current) at c.in_err-push_run-in-Char.ensures.err) [
      | inl wrong ↦ inl (run-stops c.args.params.now c.args.tables.now c.args.stock.now parts i _ c.loop-at-test.true
          c.in-Char.code _ _ fault c.in-Char.is inv.fresh inv.so_far wrong)
      | inr lost ↦ inr lost
    ] in
    search rules

pub returns-in_err-push_single-in_default : goal.returns-in_err-push_single-in_default
returns-in_err-push_single-in_default c =
    let parts = c.args.parts.now in
    let i = c.loop-at.at in
    let inv = c.loop-at.invariant in
    let lt = c.loop-at-test.true in
    let one = c.index-parts-at.result in
    let is = c.index-parts-at.is in
    let fault = c.in_err-push_single-in_default.field-0.0 in
    let none = no-code parts i one _ lt is c.in_default.not-Char in
    let known : (given_behind c.args.params.now c.args.tables.now c.args.stock.now [] parts ≡ Err fault) ⊎ (fault ≡ NoMemory) =
    elim (rw (is, inv.current, inv.factor) at c.in_err-push_single-in_default.ensures.err) [
      | inl wrong ↦ inl (single-stops c.args.params.now c.args.tables.now c.args.stock.now parts i one lt _ _ fault none inv.so_far wrong)
      | inr lost ↦ inr lost
    ] in
    search rules
