-- A sweep that has no node left makes no more.
--     after-none             none comes of none at a place
--     stays-none             so none is active at any place behind
--     none-listed            no index names no node
use Rattle.std.proofs.Common.{◌≡◌, ℕ, zero, suc, ◌+◌, ◌-◌, ◌≤◌, refl, ap, ◌∙◌, arith, List, [], ◌∷◌, length}
use Rattle.line_break.specs.declared.node.Way.{Way}
use Rattle.line_break.specs.Pass.{Pass}
use Rattle.line_break.specs.Sweep.{active, after_place, kept, new_nodes, tried}
use Rattle.break_sweep.specs.Made.{listed}

after-none : (q : Pass) (to : ℕ) → after_place q to [] ≡ []
unfolding after_place tried kept new_nodes
after-none q to = refl

none-behind : (q : Pass) (place more : ℕ) → active q place ≡ [] → active q (place + more) ≡ []
unfolding active
none-behind q place zero none = let same : place + 0 ≡ place = omega arith in ap (active q) same ∙ none
none-behind q place (suc more) none =
    let next : place + suc more ≡ suc (place + more) = omega arith in
    ap (active q) next ∙ ap (after_place q (suc (place + more))) (none-behind q place more none) ∙ after-none q (suc (place + more))

pub stays-none : (q : Pass) (place end : ℕ) → place ≤ end → active q place ≡ [] → active q end ≡ []
stays-none q place end before none =
    let all : end ≡ place + (end - place) = omega arith in
    ap (active q) all ∙ none-behind q place (end - place) none

pub none-listed : (ways : List Way) (indices : List ℕ) → length indices ≡ 0 → listed ways indices ≡ []
unfolding listed
none-listed ways [] none = refl
none-listed ways (index ∷ indices) none = absurd cc
