-- The scan from the end keeps where a line begins.
use Rattle.std.proofs.Common.{◌≡◌, ◌<◌, ◌≤◌, ◌+◌, ◌-◌, List, length, refl, ap, sym, ◌∙◌, arith}
use Rattle.std.specs.Prelude.{slice_get, Some, Bool, true, false, ◌==◌}
use Rattle.std.proofs.lemmas.Bool.Decides.{nat_tests}
use Rattle.std.proofs.lemmas.Option.{slice_get_read}
use Rattle.hlist.specs.declared.item.Item.TheVariants.{Disc}
use Rattle.hlist.specs.declared.item.Sub.{Sub}
use Rattle.break_rule.proofs.BeginLaws.{begin_end, begin_bare, begin_put, begin_plain, kept-within}
use Rattle.break_rule.proofs.ScanReads.{rest_at, backs_length}
use Rattle.break_rule.proofs.opening.begin_behind.Goals as goal

none-at : (post own : List Sub) (empty : Bool) → empty ≡ (length post == 0) → post ≡ own → empty ≡ true → length own ≡ 0
none-at post own empty told same so =
    let alike : length post ≡ length own = ap (λ (entries : List Sub). length entries) same in
    let zero : length post ≡ 0 = grind (arith, nat_tests, told, so) in
    omega (arith, alike, zero)

some-at : (post own : List Sub) (empty : Bool) → empty ≡ (length post == 0) → post ≡ own → empty ≡ false → length own ≡ 0 → ⊥
some-at post own empty told same not none =
    let alike : length post ≡ length own = ap (λ (entries : List Sub). length entries) same in
    let zero : length post ≡ 0 = omega (arith, alike, none) in
    grind (arith, nat_tests, told, not, zero)

pub index-requires-then-is_empty : goal.index-requires-then-is_empty
index-requires-then-is_empty c = omega (arith, c.requires.within, backs_length _ _ _ _ c.requires.scan)

pub index-requires-in_default : goal.index-requires-in_default
index-requires-in_default c = omega (arith, c.requires.within, backs_length _ _ _ _ c.requires.scan)

pub returns-then-behind-eq0-clause-exact : goal.returns-then-behind-eq0-clause-exact
returns-then-behind-eq0-clause-exact c =
    let items = c.args.items.now in
    let at = c.args.at in
    let none : length items - at ≡ 0 = c.if-behind-eq0.true in
    let first : 0 ≡ length items - at = sym none in
    let read = rest_at _ items _ _ c.requires.scan at 0 _ c.requires.within first c.index.ensures in
    read.0 ∙ sym (begin_end items at (omega (arith, none)))

pub returns-then-behind-eq0-clause-within : goal.returns-then-behind-eq0-clause-within
returns-then-behind-eq0-clause-within c =
    let items = c.args.items.now in
    let at = c.args.at in
    let first : 0 ≡ length items - at = sym c.if-behind-eq0.true in
    let read = rest_at _ items _ _ c.requires.scan at 0 _ c.requires.within first c.index.ensures in
    let kept = kept-within items at c.requires.within in
    omega (arith, read.0, kept)

pub returns-then-is_empty-clause-exact : goal.returns-then-is_empty-clause-exact
returns-then-is_empty-clause-exact c =
    let items = c.args.items.now in
    let at = c.args.at in
    let below : at < length items = omega (arith, c.if-behind-eq0.false) in
    let is : slice_get items at ≡ Some c.index-items-at.result
    = slice_get_read items (length items) at c.index-items-at.result refl below c.index-items-at.is in
    let disc : slice_get items at ≡ Some (Disc c.in-Disc.lists) = is ∙ ap Some c.in-Disc.is in
    let none : length c.in-Disc.lists.post ≡ 0 = none-at c.post.result.now _ _ c.is_empty.ensures c.post.ensures c.if-is_empty.true in
    let one : length items - at - 1 ≡ length items - (at + 1) = omega arith in
    let read = rest_at _ items _ _ c.requires.scan (at + 1) (length items - at - 1) _ (omega (arith, below)) one c.index-then-is_empty.ensures in
    read.0 ∙ sym (begin_bare items at c.in-Disc.lists disc none)

pub returns-then-is_empty-clause-within : goal.returns-then-is_empty-clause-within
returns-then-is_empty-clause-within c =
    let items = c.args.items.now in
    let at = c.args.at in
    let below : at < length items = omega (arith, c.if-behind-eq0.false) in
    let one : length items - at - 1 ≡ length items - (at + 1) = omega arith in
    let more : at + 1 ≤ length items = omega (arith, below) in
    let read = rest_at _ items _ _ c.requires.scan (at + 1) (length items - at - 1) _ more one c.index-then-is_empty.ensures in
    let kept = kept-within items (at + 1) more in
    omega (arith, read.0, kept)

pub returns-else-is_empty-clause-exact : goal.returns-else-is_empty-clause-exact
returns-else-is_empty-clause-exact c =
    let items = c.args.items.now in
    let at = c.args.at in
    let below : at < length items = omega (arith, c.if-behind-eq0.false) in
    let is : slice_get items at ≡ Some c.index-items-at.result
    = slice_get_read items (length items) at c.index-items-at.result refl below c.index-items-at.is in
    let disc : slice_get items at ≡ Some (Disc c.in-Disc.lists) = is ∙ ap Some c.in-Disc.is in
    sym (begin_put items at c.in-Disc.lists disc
    (some-at c.post.result.now _ _ c.is_empty.ensures c.post.ensures c.if-is_empty.false))

pub returns-in_default : goal.returns-in_default
returns-in_default c =
    let items = c.args.items.now in
    let at = c.args.at in
    let below : at < length items = omega (arith, c.if-behind-eq0.false) in
    let is : slice_get items at ≡ Some c.index-items-at.result
    = slice_get_read items (length items) at c.index-items-at.result refl below c.index-items-at.is in
    let read = rest_at _ items _ _ c.requires.scan at (length items - at) _ c.requires.within refl c.index-in_default.ensures in
    let kept = kept-within items at c.requires.within in
    record {
      exact = read.0 ∙ sym (begin_plain items at c.index-items-at.result is c.in_default.not-Disc);
      within = omega (arith, read.0, kept);
    }
