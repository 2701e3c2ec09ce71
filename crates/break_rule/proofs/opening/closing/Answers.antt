-- What is kept of a closing is what the scan read there.
use Rattle.std.proofs.Common.{◌≡◌, ℕ, ◌^◌, rules, length, take, List, arith, w32, FitsSigned}
use Rattle.std.specs.Prelude.{ℤ, Option}
use Rattle.std.proofs.lemmas.Int.{to_z-of_z}
use Rattle.micro_num.specs.declared.params.Params.{Params}
use Rattle.font_stock.specs.declared.font.Font.{Font}
use Rattle.hlist.specs.declared.item.Item.{Item}
use Rattle.hlist.specs.declared.item.Sub.{Sub}
use Rattle.break_rule.specs.declared.margin.Side.TheVariants.{Left, Right}
use Rattle.break_rule.specs.declared.ends.Before.{Before}
use Rattle.break_rule.specs.declared.ends.Closing.{Closing}
use Rattle.break_rule.specs.declared.sums.Sums.{Sums}
use Rattle.break_rule.specs.Adding.{plus, added, added_subs}
use Rattle.break_rule.specs.Lines.{pre_of}
use Rattle.break_rule.specs.Margins.{subs_margin}
use Rattle.break_rule.specs.Places.{penalty_of}
use Rattle.break_rule.specs.Kept.{closing_of, behind_of}
use Rattle.break_rule.proofs.Totals.{plus-within, within-more}
use Rattle.break_rule.proofs.ScanReads.{before_at, small_before, fronts_length}
use Rattle.break_rule.proofs.opening.closing.Goals as goal

pub index-requires : goal.index-requires
index-requires c = omega (arith, c.requires.within, fronts_length _ _ _ _ c.requires.scan)

pub plus-requires-clause-own : goal.plus-requires-clause-own
plus-requires-clause-own c =
    let small = small_before _ _ _ _ c.requires.scan c.args.place _ c.requires.within c.index.ensures in
    within-more 65536 (2 ^ 20) _ (omega arith) small.sums

closing-is : (params : Params) (stock : List Font) (items : List Item) (place : ℕ) (before : Before) (pre : List Sub) (sums own : Sums)
    (left right : Option ℤ) (penalty : ℤ) → before.sums ≡ added stock (take place items) → before.behind ≡ behind_of stock items place
    → pre ≡ pre_of items place → sums ≡ plus before.sums own → own ≡ added_subs stock pre
    → left ≡ subs_margin Left stock pre → right ≡ subs_margin Right stock pre → penalty ≡ penalty_of params items place
    → ◌≡◌ {A = Closing}
    record { sums = sums; left = left; right = right; behind = before.behind; penalty = penalty }
    (closing_of params stock items place)
unfolding closing_of
closing-is params stock items place before pre sums own left right penalty s b p m o l r n = cc

pub returns-clause-exact : goal.returns-clause-exact
returns-clause-exact c =
    let before = before_at _ _ _ _ c.requires.scan c.args.place _ c.requires.within c.index.ensures in
    let fits : FitsSigned w32 c.penalty.result = search rules in
    simp to_z-of_z (closing-is c.args.params.now c.args.stock.now c.args.items.now c.args.place _ _ _ _ _ _ _ before.0 before.1
    c.pre-pre.ensures.exact c.plus.ensures c.subs_sums.ensures.exact c.subs_margin.ensures.exact c.subs_margin-2.ensures.exact
    c.penalty.ensures)

pub returns-clause-small : goal.returns-clause-small
returns-clause-small c =
    let small = small_before _ _ _ _ c.requires.scan c.args.place _ c.requires.within c.index.ensures in
    record {
      sums = rw c.plus.ensures (within-more _ 98304 _ (omega (arith, c.pre-pre.ensures.short)) (plus-within 65536 (length c.pre-pre.result.now) _ _ small.sums c.subs_sums.ensures.small));
      left = c.subs_margin.ensures.small;
      right = c.subs_margin-2.ensures.small;
      behind = small.hang;
    }
