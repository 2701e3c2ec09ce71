use Rattle.std.proofs.Common.{◌≡◌, take}
use Rattle.items.proofs.lists.Items.from_copies.Given as goal

-- the copies so far are the elements that were passed
abbrev pub invariant-loop-element : goal.invariant-loop-element
invariant-loop-element g l = l.list ≡ take l.element-index l.elements
