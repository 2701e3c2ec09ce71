use Rattle.std.proofs.Common.{◌≡◌, ℕ, Some, None, sym, ◌∙◌}
use Rattle.dvi_write.proofs.NumbersAt.{number_in-some}
use Rattle.dvi_write.proofs.fonts.number_of.Goals as goal

pub unreachable-requires : goal.unreachable-requires
unreachable-requires c = none_some _ (sym c.in-None.is ∙ c.number_of.ensures.exact ∙ number_in-some c.args.numbering.now c.args.cell c.requires)
  where
    none_some : (n : ℕ) → None ≡ Some n → ⊥
    none_some n same = cc
