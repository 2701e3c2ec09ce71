use Rattle.std.proofs.Common.{◌≡◌, drop, map, fold}
use Rattle.std.specs.Int.{int_max}
use Rattle.instance_core.specs.declared.page.Page.{Page}
use Rattle.dvi_write.specs.Document.{greatest_width}
use Rattle.dvi_write.proofs.file.greatest_width.Given as goal

abbrev pub invariant-loop-page : goal.invariant-loop-page
invariant-loop-page l =
    fold int_max l.greatest (map (λ (page : Page). page.width) (drop l.page-index l.pages)) ≡ greatest_width l.pages
