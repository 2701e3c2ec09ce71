-- The ways that an array of nodes spells: each node names the one before it by its index, which is lower.
--     way_of                 the way of a node, by the ways of the nodes made before it
--     ways_of                the ways of all nodes, in the order in which they were made
--     listed                 the ways of the nodes that a list of indices names
--     IsNear                 a node before a place, whose numbers fit, so that a line can be added
--     IsFound                a line recorded at a place
--     AreActive              an array and a list of indices that are the active nodes before the place after one
use Rattle.std.specs.Prelude.{◌≡◌, ℕ, ◌^◌, ◌<◌, ℤ, pos, neg_ℤ, ◌≤ℤ◌, List, [], ◌∷◌, ◌++◌, map, length, Option, Some, None, slice_index_or}
use Rattle.std.specs.List.{fold, slice_get, All}
use Rattle.line_break.specs.declared.node.Node.{Node}
use Rattle.line_break.specs.declared.node.Way.{Way}
use Rattle.line_break.specs.Pass.{Pass}
use Rattle.line_break.specs.Sweep.{active}
use Rattle.break_sweep.specs.declared.made.Made.{Made}

-- the nodes of a way, the latest first; none where there is no way
abbrev pub nodes_of : Option Way → List Node
nodes_of None = []
nodes_of (Some w) = w.last ∷ w.earlier

-- A node goes on the way of the one before it; where there is none, as for the start, it begins a way.
abbrev pub way_of : List Way → Made → Way
way_of ws m = record { last = m.node; earlier = nodes_of (slice_get ws m.before); total = m.total }

abbrev pub and_way : List Way → Made → List Way
and_way ws m = ws ++ way_of ws m ∷ []

unfoldable pub ways_of : List Made → List Way
ways_of made = fold and_way [] made

-- what is read past the end of a list of ways
abbrev pub no_way : Way
no_way = record { last = record { place = 0; group = 0; class = 0 }; earlier = []; total = pos 0 }

-- what is read past the end of an array of nodes
abbrev pub no_made : Made
no_made = record { node = record { place = 0; group = 0; class = 0 }; total = pos 0; before = 0 }

abbrev pub way_at : List Way → ℕ → Way
way_at ws index = slice_index_or ws index no_way

unfoldable pub listed : List Way → List ℕ → List Way
listed ws indices = map (way_at ws) indices

-- A node before a place, with a total that a line can still be added to, and a group that can still be counted up.
pub record IsNear (to : ℕ) (x : Node) (total : ℤ) : Type 0 where
  pub forward : x.place < to
  pub low : neg_ℤ (pos (2 ^ 60)) ≤ℤ total
  pub high : total ≤ℤ pos (2 ^ 30)
  pub group_low : 0 < x.group
  pub group_high : x.group < 2 ^ 31

-- A line recorded at a place, from one of the nodes made before, whose total can still be compared.
pub record IsFound (to nodes : ℕ) (m : Made) : Type 0 where
  pub place : m.node.place ≡ to
  pub before : m.before < nodes
  pub high : m.total ≤ℤ pos (2 ^ 30)

-- Each index is that of a node, and the ways of the nodes that they name are the active ones.
pub record AreActive (q : Pass) (place : ℕ) (nodes : List Made) (indices : List ℕ) : Type 0 where
  pub named : All (λ i. i < length nodes) indices
  pub spelled : listed (ways_of nodes) indices ≡ active q place
  pub few : length nodes < 2 ^ 32
