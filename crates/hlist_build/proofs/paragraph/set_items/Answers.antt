-- There is room for as many items as there are parts.
use Rattle.std.proofs.Common.{arith}
use Rattle.hlist_build.proofs.TurnLemmas.{length-le-count}
use Rattle.hlist_build.proofs.paragraph.set_items.Goals as goal

pub overflow_add-room : goal.overflow_add-room
overflow_add-room c = let few = length-le-count c.args.par.now.parts in omega (arith, few, c.requires.few)
