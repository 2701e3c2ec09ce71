-- One pass over a list: its fits and its demerits as the pass that the ways are defined by.
--     fit_at                 the fit of a line by the numbers of its places
--     demerits_at            what it costs after a node
--     pass_of                the pass
use Rattle.std.specs.Prelude.{ℕ, ℤ, Bool, unsigned_abs}
use Rattle.std.specs.Ordering.{int_eq}
use Rattle.micro_num.specs.Shape.{open_group}
use Rattle.line_break.specs.declared.node.Node.{Node}
use Rattle.line_break.specs.Pass.{Pass}
use Rattle.break_rule.specs.declared.line.LineFit.{LineFit}
use Rattle.break_rule.specs.Fits.{Rule, fit_of}
use Rattle.break_rule.specs.Places.{eject, legal_of}
use Rattle.break_pass.specs.Demerits.{demerits_of}
use Rattle.break_pass.specs.LegalPlaces.{place_of, from_of, kind_at}

-- All lines of a group have the width of the line whose number is the group's.
abbrev pub fit_at : Rule → ℕ → ℕ → ℕ → LineFit
fit_at rule from group to = fit_of rule (from_of rule from) (place_of rule to).at group

abbrev pub demerits_after : Rule → Node → ℕ → LineFit → ℤ
demerits_after rule before to fit =
    demerits_of rule.params (kind_at rule before.place) before.class fit.badness fit.class (place_of rule to).penalty (place_of rule to).kind

unfoldable pub demerits_at : Rule → Node → ℕ → ℤ
demerits_at rule before to = demerits_after rule before to (fit_at rule before.place before.group to)

-- with the greatest badness that a line may have; `final` says that no other pass is tried after it
unfoldable pub pass_of : Rule → ℤ → Bool → Pass
pass_of rule threshold final = record {
  legal = legal_of rule.params rule.items;
  forced = λ place. int_eq (place_of rule place).penalty eject;
  badness = λ from group to. (fit_at rule from group to).badness;
  class = λ from group to. (fit_at rule from group to).class;
  demerits = demerits_at rule;
  threshold = threshold;
  slack = unsigned_abs rule.params.adjdemerits;
  final = final;
  open_ended = open_group rule.params rule.shape;
}
