-- What is said of the list of active nodes and of the ways.
--     IsActiveList           what the list before a place holds
--     EachLine, IsLine       the lines of a way
--     IsAlmostBlind          how far demerits see the class of the line before
--     IsEnded, IsSingle      the end is forced; each line is a group of its own
--     IsQuiet                nothing is rescued
--     IsBestAmong            the best of some ways
use Rattle.std.specs.Prelude.{◌≡◌, ℕ, suc, ◌+◌, ◌<◌, ◌≤◌, ◌⊎◌, ℤ, pos, ◌+ℤ◌, ◌≤ℤ◌, true, false, if◌then◌else◌, List, [], ◌∷◌, ◌==◌, None}
use Rattle.std.specs.List.{filter}
use Rattle.std.specs.Ordering.{is_gt}
use Rattle.line_break.specs.declared.node.Node.{Node}
use Rattle.line_break.specs.declared.node.Way.{Way}
use Rattle.line_break.specs.Members.{Among, Ascends}
use Rattle.line_break.specs.Pass.{Pass, group_of_line, next_group, order}
use Rattle.line_break.specs.Ways.{start, ways, open_to, is_rescued}
use Rattle.line_break.specs.Best.{preference, end_of}
use Rattle.line_break.specs.Taken.{line_count}

-- The nodes are those of the ways that are open to the next place, each once, in order; and each node has the way that
-- is the first of all ways to it.
pub record IsActiveList (q : Pass) (place : ℕ) (nodes : List Way) : Type 0 where
  pub in_order : Ascends (λ v w. order q.open_ended v.last w.last) nodes
  pub are_open : (w : Way) → Among nodes w → Among (open_to q (suc place)) w
  pub are_all : (v : Way) → Among (open_to q (suc place)) v → (w : Way) × Among nodes w × (w.last ≡ v.last)
  pub are_first : (w v : Way) → Among nodes w → Among (ways q place) v → v.last ≡ w.last → is_gt (preference q.open_ended w v) ≡ false

-- R holds of each two neighbours among x and the nodes before it, the earlier one first; and the first node is s.
abbrev pub EachStep : (Node → Node → Type 0) → Node → Node → List Node → Type 0
EachStep R s x [] = x ≡ s
EachStep R s x (y ∷ ys) = R y x × EachStep R s y ys

-- from node to node a line forward, of the next group, with its class, and no worse than the pass admits but at a rescue
pub record IsLine (q : Pass) (x y : Node) : Type 0 where
  pub forward : x.place < y.place
  pub group : y.group ≡ next_group q.open_ended x.group
  pub class : y.class ≡ q.class x.place x.group y.place
  pub good : (is_rescued q y.place ≡ true) ⊎ (pos (q.badness x.place x.group y.place) ≤ℤ q.threshold)

-- what a line adds to the total
abbrev pub added_by : Pass → Node → Node → ℤ
added_by q x y = if is_rescued q y.place then pos 0 else q.demerits x y.place

abbrev pub added_before : Pass → Node → List Node → ℤ
added_before q y [] = pos 0
added_before q y (x ∷ xs) = added_before q x xs +ℤ added_by q x y

pub record IsMadeOfLines (q : Pass) (w : Way) : Type 0 where
  pub group : w.last.group ≡ group_of_line q.open_ended (line_count w + 1)
  pub lines : EachStep (IsLine q) (start q).last w.last w.earlier
  pub total : w.total ≡ added_before q w.last w.earlier

-- From two nodes of one place and group the demerits of a line differ by no more than the slack.
abbrev pub IsAlmostBlind : Pass → Type 0
IsAlmostBlind q = (x y : Node) (to : ℕ) → x.place ≡ y.place → x.group ≡ y.group → q.demerits x to ≤ℤ (q.demerits y to +ℤ pos q.slack)

-- The end forces a break.
abbrev pub IsEnded : Pass → Type 0
IsEnded q = q.forced (end_of q) ≡ true

-- Each line is a group of its own.
abbrev pub IsSingle : Pass → Type 0
IsSingle q = q.open_ended ≡ None

-- No place is rescued.
abbrev pub IsQuiet : Pass → Type 0
IsQuiet q = (place : ℕ) → place ≤ end_of q → is_rescued q place ≡ false

abbrev pub of_group : ℕ → List Way → List Way
of_group group ws = filter (λ w. w.last.group == group) ws

-- b is one of the ways, no way comes before it, and none has a lower total.
pub record IsBestAmong (q : Pass) (ws : List Way) (b : Way) : Type 0 where
  pub within : Among ws b
  pub preferred : (w : Way) → Among ws w → is_gt (preference q.open_ended b w) ≡ false
  pub least : (w : Way) → Among ws w → b.total ≤ℤ w.total
