use Rattle.std.proofs.Common.{◌≡◌, ℕ, ◌<◌, ◌∷◌, [], ◌∙◌, ap, sym, subst, arith, length, vec_len, List}
use Rattle.std.specs.Prelude.{All}
use Rattle.std.specs.Vec.Iter.{into_iter_items}
use Rattle.std.proofs.lemmas.List.{nil_from_length}
use Rattle.std.proofs.lemmas.List.Elements.{All-rest}
use Rattle.para_threads.specs.declared.done.DoneAt.{DoneAt}
use Rattle.para_threads.specs.Slots.{Slot, filled}
use Rattle.para_threads.proofs.SlotPages.{filled-more, filled-none}
use Rattle.para_threads.proofs.slots.fill.Goals as goal

pub loop-one-preserved : goal.loop-one-preserved
loop-one-preserved c =
    let inv = c.loop-one.invariant in
    let one = c.in-Some.one in
    let rest = into_iter_items c.next.new.self in
    let steps : into_iter_items c.loop-one.one-iterator ≡ one ∷ rest = c.in-Some.ensures.steps.0 in
    record {
      within = subst (λ (n : ℕ). All (λ (e : DoneAt). e.place < n) rest) (sym c.put.ensures.length)
          (All-rest (λ (e : DoneAt). e.place < vec_len c.loop-one.slots) one rest (into_iter_items c.loop-one.one-iterator) steps inv.within);
      rest = ap (λ (slots : List Slot). filled slots rest) c.put.ensures.items
          ∙ sym (filled-more c.loop-one.slots.items one rest)
          ∙ ap (filled c.loop-one.slots.items) (sym steps)
          ∙ inv.rest;
      long = c.put.ensures.length ∙ inv.long;
      count = omega (arith, inv.count, c.in-Some.ensures.steps.1, ap length steps);
    }

pub returns-clause-filled : goal.returns-clause-filled
returns-clause-filled c =
    let inv = c.loop-one.invariant in
    let none : into_iter_items c.loop-one.one-iterator ≡ [] = nil_from_length _ (sym inv.count ∙ c.in-None.ensures.steps.0) in
    sym (filled-none c.loop-one.slots.items)
    ∙ ap (filled c.loop-one.slots.items) (sym none)
    ∙ inv.rest
    ∙ ap (filled c.args.slots.now.items) c.into_iter-one-iterator.ensures.into_iter_gives.0
