-- When new nodes can be put into a list of active nodes by their places.
--     IsToJoin               two lists of ways in the order of nodes, with no node in both
use Rattle.std.specs.Prelude.{◌≢◌, ℕ, List, Option}
use Rattle.std.specs.declared.cmp.Ordering.TheVariants.{Equal}
use Rattle.line_break.specs.declared.node.Way.{Way}
use Rattle.line_break.specs.Members.{Among, Ascends}
use Rattle.line_break.specs.Pass.{order}

pub record IsToJoin (ended : Option ℕ) (old fresh : List Way) : Type 0 where
  pub old_ascend : Ascends (λ v w. order ended v.last w.last) old
  pub fresh_ascend : Ascends (λ v w. order ended v.last w.last) fresh
  pub apart : (v w : Way) → Among old v → Among fresh w → order ended w.last v.last ≢ Equal
