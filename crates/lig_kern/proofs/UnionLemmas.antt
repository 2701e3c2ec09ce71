-- A ligature covers exactly the codes that the symbols cover which it takes the place of.
use Rattle.std.proofs.Common.{ℕ, ◌<◌, ◌≤◌, ◌⊎◌, Bool, true, false, List, [], ◌∷◌, inl, inr, arith}
use Rattle.std.proofs.lemmas.Bool.Decides.{leb_tells}
use Rattle.tfm_read.specs.declared.tfm.Tfm.{Tfm}
use Rattle.lig_kern.specs.Covering.{Covers, AnyCovers}
use Rattle.lig_kern.specs.Rewriting.{Reached, dropped, ligature_between}
use Rattle.lig_kern.specs.Running.{start_of}
use Rattle.lig_kern.specs.declared.operation.Operation.{Operation}
use Rattle.lig_kern.specs.declared.symbols.Symbol.{Symbol}
use Rattle.lig_kern.proofs.CoverLemmas.{Meet, reached-meet}

-- what is covered from one place to another is covered to a place between or from there on
split-at : (from middle to code : ℕ) → from ≤ middle → middle ≤ to → (from ≤ code) × (code < to)
    → ((from ≤ code) × (code < middle)) ⊎ ((middle ≤ code) × (code < to))
split-at from middle to code p q within =
    let low = within.0 in
    let high = within.1 in
    elim (leb_tells middle code) [
      | inl later ↦ let le = later.1 in inr (omega (arith, le), high)
      | inr sooner ↦ let lt = sooner.1 in inl (low, omega (arith, lt))
    ]

covers : (keeps_current keeps_next : Bool) (passes lig : ℕ) (current follower : Symbol) → Meet current follower → (code : ℕ)
    → (Covers code (ligature_between (record { passes = passes; keeps_current = keeps_current; keeps_next = keeps_next }) lig current follower)
    → AnyCovers code (dropped keeps_current current (dropped keeps_next follower [])))
    × (AnyCovers code (dropped keeps_current current (dropped keeps_next follower []))
    → Covers code (ligature_between (record { passes = passes; keeps_current = keeps_current; keeps_next = keeps_next }) lig current follower))
covers false false passes lig current follower meet code =
    let first = meet.first in
    let place = meet.place in
    let last = meet.second in (
      λ within.
          elim (split-at current.from current.to follower.to code first (omega (arith, place, last)) within) [
            | inl here ↦ inl here
            | inr there ↦ let low = there.0 in inr (inl (omega (arith, place, low), there.1))
          ],
      λ any. elim any [
        | inl here ↦ let high = here.1 in (here.0, omega (arith, high, place, last))
        | inr there ↦ elim there [
          | inl next ↦ let low = next.0 in (omega (arith, low, place, first), next.1)
          | inr none ↦ absurd none
        ]
      ],
    )
covers false true passes lig current follower meet code =
    (λ within. inl within, λ any. elim any [ inl here ↦ here | inr none ↦ absurd none ])
covers true false passes lig current follower meet code =
    (λ within. inl within, λ any. elim any [ inl here ↦ here | inr none ↦ absurd none ])
covers true true passes lig current follower meet code =
    (λ within. let low = within.0 in let high = within.1 in absurd (omega (arith, low, high)), λ none. absurd none)

pub ligature-covers : (tfm : Tfm) (codes : List ℕ) (left right : Bool) (acted : ℕ) (before : List Symbol) (current follower : Symbol)
    (rest : List Symbol) → Reached tfm (start_of tfm codes left right) acted before (current ∷ follower ∷ rest)
    → (op : Operation) (lig code : ℕ)
    → (Covers code (ligature_between op lig current follower) → AnyCovers code (dropped op.keeps_current current (dropped op.keeps_next follower [])))
    × (AnyCovers code (dropped op.keeps_current current (dropped op.keeps_next follower [])) → Covers code (ligature_between op lig current follower))
ligature-covers tfm codes left right acted before current follower rest r op lig code =
    covers op.keeps_current op.keeps_next op.passes lig current follower
    (reached-meet tfm codes left right acted before current follower rest r) code
