use Rattle.std.specs.List.{AllWithin}
use Rattle.micro_num.specs.Shape.{IsShapeLine}
use Rattle.breaks_tests.proofs.pages.are_short.Given as goal

-- each line of the shape before this one is short
abbrev pub invariant-loop-line : goal.invariant-loop-line
invariant-loop-line l = AllWithin IsShapeLine l.shape 0 l.line-index
