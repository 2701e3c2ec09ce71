use Rattle.std.proofs.Common.{◌≡◌}
use Rattle.std.specs.Prelude.{replicate}
use Rattle.dvi_write.specs.Worked.{three_letters}
use Rattle.page_tests.proofs.files.copies.Given as goal

abbrev pub invariant-loop-page : goal.invariant-loop-page
invariant-loop-page l = l.pages.items ≡ replicate l._page three_letters
