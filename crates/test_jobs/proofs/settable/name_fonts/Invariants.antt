use Rattle.std.proofs.Common.{ℕ, ◌<◌, length}
use Rattle.std.specs.List.{AllWithin}
use Rattle.hlist_build.specs.Parts.{NamesFont}
use Rattle.micro_num.specs.declared.paragraph.PartAt.{PartAt}
use Rattle.test_jobs.proofs.settable.name_fonts.Given as goal

-- each part before this one names a font of the stock, if it names one
abbrev pub invariant-loop-one : goal.invariant-loop-one
invariant-loop-one l = AllWithin (λ (one : PartAt). NamesFont (length l.stock) one.part) l.parts 0 l.one-index
