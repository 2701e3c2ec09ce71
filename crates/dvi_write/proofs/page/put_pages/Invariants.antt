use Rattle.std.proofs.Common.{◌≡◌, ◌+◌, None, drop}
use Rattle.dvi_write.specs.Output.{grown}
use Rattle.dvi_write.specs.Writing.{pages_bytes, last_page}
use Rattle.dvi_write.proofs.page.put_pages.Given as goal

-- what is written, with what is left, is the whole
abbrev pub invariant-loop-before : goal.invariant-loop-before
invariant-loop-before l = record {
  bytes : grown l.out (pages_bytes l.rows l.numbering l.defined l.out.length (l.before + 1) l.previous (drop l.before l.pages)) ≡ grown l.initial.out (pages_bytes l.rows l.numbering 0 l.initial.out.length 1 None l.pages);
  last : last_page l.rows l.numbering l.defined l.out.length (l.before + 1) l.previous (drop l.before l.pages) ≡ last_page l.rows l.numbering 0 l.initial.out.length 1 None l.pages;
}
