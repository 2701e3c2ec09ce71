-- The lines so far, none of them refused, and those to come are all lines.
use Rattle.std.proofs.Common.{◌≡◌, ◌+◌, ◌++◌, drop, length, None}
use Rattle.std.specs.Prelude.{All}
use Rattle.break_rule.specs.Made.{IsFrom}
use Rattle.break_rule.specs.declared.line.From.TheVariants.{Start}
use Rattle.hpack_two.specs.Answers.{touched_with}
use Rattle.para_workers.specs.Fitting.{IsSetOver}
use Rattle.para_workers.specs.SetPar.{first_refused, set_lines}
use Rattle.para_workers.specs.Touched.{cells_on}
use Rattle.para_workers.proofs.lines.packed_lines.Given as goal

abbrev pub invariant-loop-index : goal.invariant-loop-index
invariant-loop-index g l = record {
  all : l.lines ++ set_lines l.rule (l.index + 1) l.from (drop l.index l.breaks) ≡ set_lines l.rule 1 Start l.breaks;
  count : length l.lines ≡ l.index;
  good : first_refused l.lines ≡ None;
  over : All (IsSetOver l.stock) l.lines;
  from : IsFrom l.rule l.from;
  touched : g.W.WidthSource.touched l.source ≡ touched_with (g.W.WidthSource.bases l.initial.source) (cells_on l.lines) (g.W.WidthSource.touched l.initial.source);
  bases : g.W.WidthSource.bases l.source ≡ g.W.WidthSource.bases l.initial.source;
  fixed : g.W.WidthSource.fixed l.source ≡ g.W.WidthSource.fixed l.initial.source;
}
