-- The best of some ways.
use Rattle.std.proofs.Common.{◌≡◌, ℕ, List, Some}
use Rattle.line_break.specs.declared.node.Way.{Way}
use Rattle.line_break.specs.Members.{first_by}
use Rattle.line_break.specs.Pass.{Pass}
use Rattle.line_break.specs.Best.{preference, to_the_end, best, best_of_group}
use Rattle.line_break.specs.Unpruned.{unpruned_to_the_end, best_unpruned}
use Rattle.line_break.specs.Laws.{IsBestAmong, of_group}
use Rattle.line_break.proofs.OrderLemmas.{preference_total, preferred_total}
use Rattle.line_break.proofs.Ending.{first_by_some}

module _ (q : Pass) where
  best_among : (ws : List Way) (b : Way) → first_by (preference q.open_ended) ws ≡ Some b → IsBestAmong q ws b
  best_among ws b e =
      let f = first_by_some (preference_total q.open_ended) ws b e in
      record { within = f.within; preferred = f.least; least = λ w m. preferred_total q.open_ended b w (f.least w m) }

  pub best_is : (b : Way) → best q ≡ Some b → IsBestAmong q (to_the_end q) b
  unfolding best
  best_is b e = best_among (to_the_end q) b e

  pub best_of_group_is : (group : ℕ) (b : Way) → best_of_group q group ≡ Some b → IsBestAmong q (of_group group (to_the_end q)) b
  unfolding best_of_group
  best_of_group_is group b e = best_among (of_group group (to_the_end q)) b e

  pub best_unpruned_is : (b : Way) → best_unpruned q ≡ Some b → IsBestAmong q (unpruned_to_the_end q) b
  unfolding best_unpruned
  best_unpruned_is b e = best_among (unpruned_to_the_end q) b e
