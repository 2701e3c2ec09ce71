use Rattle.std.proofs.Common.{◌≡◌, pos, drop}
use Rattle.renumber.specs.Uses.{cells_of_lines}
use Rattle.dvi_write.specs.Output.{grown}
use Rattle.dvi_write.specs.Writing.{lines_bytes, fonts_after}
use Rattle.dvi_write.specs.Writable.{IsPlace}
use Rattle.dvi_write.proofs.page.put_lines.Given as goal

-- what is written, with what is left, is the whole
abbrev pub invariant-loop-placed : goal.invariant-loop-placed
invariant-loop-placed l = record {
  within : IsPlace l.v;
  bytes : grown l.out (lines_bytes l.rows l.numbering l.fonts l.v (drop l.placed-index l.lines)) ≡ grown l.initial.out (lines_bytes l.rows l.numbering l.initial.fonts (pos 0) l.lines);
  after : fonts_after l.numbering l.fonts (cells_of_lines (drop l.placed-index l.lines)) ≡ fonts_after l.numbering l.initial.fonts (cells_of_lines l.lines);
}
