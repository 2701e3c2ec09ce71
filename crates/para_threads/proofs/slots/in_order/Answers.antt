-- One page after another, until a paragraph has a fault.
use Rattle.std.proofs.Common.{◌≡◌, ℕ, ◌+◌, ◌++◌, [], ◌∷◌, length, arith, ap, sym, ◌∙◌, subst, List, length-append, Some, Ok, Err}
use Rattle.std.specs.Prelude.{All}
use Rattle.std.specs.Vec.Iter.{into_iter_items}
use Rattle.std.proofs.lemmas.List.{nil_from_length}
use Rattle.std.proofs.lemmas.List.Elements.{All-tail}
use Rattle.instance_core.specs.declared.page.Page.{Page}
use Rattle.para_threads.specs.Slots.{IsFull, Slot, pages_in}
use Rattle.para_threads.proofs.SlotPages.{all-slots, behind, fault-slot, next-slot}
use Rattle.para_threads.proofs.slots.in_order.Goals as goal

pub loop-slot-preserved : goal.loop-slot-preserved
loop-slot-preserved c =
    let inv = c.loop-slot.invariant in
    let pages = c.loop-slot.pages in
    let rest = into_iter_items c.next.new.self in
    let page = c.in-Some-Ok.page in
    let slot : c.in-Some.slot ≡ Some (Ok page) = c.in-Some-Ok.is ∙ ap (λ one. Some one) c.in-Some-Ok.field-0-is in
    let steps : into_iter_items c.loop-slot.slot-iterator ≡ Some (Ok page) ∷ rest = c.in-Some.ensures.steps.0 ∙ ap (λ (s : Slot). s ∷ rest) slot in
    let put : c.push.new.self ≡ pages ++ page ∷ [] = c.in_ok-push-in-Some-Ok.ensures.ok in
    let count : length c.push.new.self ≡ length pages + 1 = ap length put ∙ length-append pages (page ∷ []) in
    record {
      all = ap (λ (ps : List Page). behind ps (pages_in (length ps + 1) rest)) put
          ∙ ap (λ (n : ℕ). behind (pages ++ page ∷ []) (pages_in (n + 1) rest)) (length-append pages (page ∷ []))
          ∙ next-slot (length pages + 1) page rest pages _ (ap (λ (ss : List Slot). behind pages (pages_in (length pages + 1) ss)) (sym steps) ∙ inv.all);
      left = omega (arith, inv.left, count, ap length steps);
      full = All-tail IsFull (Some (Ok page)) rest (subst (All IsFull) steps inv.full);
      count = omega (arith, inv.count, c.in-Some.ensures.steps.1, ap length steps);
    }

pub returns-in-Some-Err : goal.returns-in-Some-Err
returns-in-Some-Err c =
    let inv = c.loop-slot.invariant in
    let pages = c.loop-slot.pages in
    let rest = into_iter_items c.next.new.self in
    let fault = c.in-Some-Err.fault in
    let slot : c.in-Some.slot ≡ Some (Err fault) = c.in-Some-Err.is ∙ ap (λ one. Some one) c.in-Some-Err.field-0-is in
    let steps : into_iter_items c.loop-slot.slot-iterator ≡ Some (Err fault) ∷ rest = c.in-Some.ensures.steps.0 ∙ ap (λ (s : Slot). s ∷ rest) slot in
    let number : length pages + 1 ≡ c.len-in-loop-slot.result + 1 = omega (arith, c.len-in-loop-slot.ensures) in
    sym (ap (pages_in 1) c.into_iter-slot-iterator.ensures.into_iter_gives.0)
    ∙ fault-slot (length pages + 1) fault rest pages _ (ap (λ (ss : List Slot). behind pages (pages_in (length pages + 1) ss)) (sym steps) ∙ inv.all)
    ∙ (λ i. Err (record { paragraph = number i; fault = fault }))

pub returns : goal.returns
returns c =
    let inv = c.loop-slot.invariant in
    let none : into_iter_items c.loop-slot.slot-iterator ≡ [] = nil_from_length _ (sym inv.count ∙ c.in-None.ensures.steps.0) in
    sym (ap (pages_in 1) c.into_iter-slot-iterator.ensures.into_iter_gives.0)
    ∙ all-slots (length c.loop-slot.pages + 1) (into_iter_items c.loop-slot.slot-iterator) c.loop-slot.pages _ none inv.all
