use Rattle.std.proofs.Common.{◌≡◌, take}
use Rattle.std.specs.Option.{IfSome}
use Rattle.break_rule.specs.declared.margin.Side.TheVariants.{Right}
use Rattle.break_rule.specs.Kept.{IsHang}
use Rattle.break_rule.specs.Margins.{subs_margin}
use Rattle.break_rule.proofs.margin.last_margin.Given as goal

abbrev pub invariant-loop-sub : goal.invariant-loop-sub
invariant-loop-sub l = record {
  exact : l.found ≡ subs_margin Right l.stock (take l.sub-index l.subs);
  small : IfSome l.found IsHang;
}
