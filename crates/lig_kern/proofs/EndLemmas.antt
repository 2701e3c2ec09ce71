-- Steps lead from a list to one end at most, and no more words act than until that end.
use Rattle.std.proofs.Common.{◌≡◌, ℕ, zero, suc, ◌+◌, ◌-◌, ◌≤◌, List, [], ◌∷◌, ◌++◌, refl, ap, sym, ◌∙◌, arith, add-zero, add-suc, inl, inr, ◌⊎◌}
use Rattle.std.proofs.lemmas.Bool.Decides.{leb_tells}
use Rattle.tfm_read.specs.declared.tfm.Tfm.{Tfm}
use Rattle.lig_kern.specs.Rewriting.{move_at, Reached, begins, goes_on, EndsWithin, GoesPast}
use Rattle.lig_kern.specs.Symbols.{glyphs_of}
use Rattle.lig_kern.specs.declared.glyph.Glyph.{Glyph}
use Rattle.lig_kern.specs.declared.symbols.Symbol.{Symbol}

-- a state, with the number of words that have acted
record State : Type 0 where
  acted : ℕ
  before : List Symbol
  ahead : List Symbol

-- one step, or none at the end of the list
abbrev stepped : Tfm → ℕ → List Symbol → List Symbol → State
stepped tfm acted before [] = record { acted = acted; before = before; ahead = [] }
stepped tfm acted before (current ∷ rest) = record {
  acted = acted + (move_at tfm current rest).acts;
  before = before ++ (move_at tfm current rest).passed;
  ahead = (move_at tfm current rest).ahead;
}

abbrev step : Tfm → State → State
step tfm s = stepped tfm s.acted s.before s.ahead

-- the state after n steps
after : Tfm → List Symbol → ℕ → State
after tfm start zero = record { acted = 0; before = []; ahead = start }
after tfm start (suc n) = step tfm (after tfm start n)

abbrev at_state : ℕ → List Symbol → List Symbol → State
at_state acted before ahead = record { acted = acted; before = before; ahead = ahead }

-- a state that is reached is that after some number of steps
reached-after : (tfm : Tfm) (start : List Symbol) (acted : ℕ) (before ahead : List Symbol)
    → Reached tfm start acted before ahead → (n : ℕ) × (after tfm start n ≡ at_state acted before ahead)
unfolding after
reached-after tfm start acted before ahead begins = (0, refl)
reached-after tfm start acted before ahead (goes_on old passed current rest r) =
    let (n, e) = reached-after tfm start old passed (current ∷ rest) r in
    (suc n, ap (step tfm) e)

stepped-end : (tfm : Tfm) (acted : ℕ) (before ahead : List Symbol) → ahead ≡ []
    → stepped tfm acted before ahead ≡ at_state acted before ahead
stepped-end tfm acted before ahead e = rw e

-- from an end on nothing changes
after-end : (tfm : Tfm) (start : List Symbol) (n k : ℕ) → (after tfm start n).ahead ≡ []
    → after tfm start (n + k) ≡ after tfm start n
unfolding after
after-end tfm start n zero e = ap (after tfm start) (add-zero n)
after-end tfm start n (suc k) e =
    let s = after tfm start n in
    ap (after tfm start) (add-suc n k) ∙ ap (step tfm) (after-end tfm start n k e)
    ∙ stepped-end tfm s.acted s.before s.ahead e

stepped-acted : (tfm : Tfm) (acted : ℕ) (before ahead : List Symbol) → acted ≤ (stepped tfm acted before ahead).acted
stepped-acted tfm acted before [] = omega arith
stepped-acted tfm acted before (current ∷ rest) = omega arith

-- the number of words that have acted never falls
after-acted : (tfm : Tfm) (start : List Symbol) (n k : ℕ)
    → (after tfm start n).acted ≤ (after tfm start (n + k)).acted
unfolding after
after-acted tfm start n zero = rw (add-zero n) (omega arith)
after-acted tfm start n (suc k) =
    let s = after tfm start (n + k) in
    let earlier = after-acted tfm start n k in
    let later = stepped-acted tfm s.acted s.before s.ahead in
    rw (add-suc n k) (omega (arith, earlier, later))

-- of two numbers of steps one is the other and some more
apart : (n m : ℕ) → ((k : ℕ) × (m ≡ n + k)) ⊎ ((k : ℕ) × (n ≡ m + k))
apart n m = elim (leb_tells n m) [ inl p ↦ inl (m - n, omega arith) | inr p ↦ inr (n - m, omega arith) ]

-- no more words act than until an end
pub acted-le_end : (tfm : Tfm) (start : List Symbol) (acted other : ℕ) (symbols before ahead : List Symbol)
    → Reached tfm start acted symbols [] → Reached tfm start other before ahead → other ≤ acted
acted-le_end tfm start acted other symbols before ahead ends comes =
    let (n, e) = reached-after tfm start acted symbols [] ends in
    let (m, f) = reached-after tfm start other before ahead comes in
    let over : (after tfm start n).ahead ≡ [] = ap (λ (s : State). s.ahead) e in
    let acted-is : (after tfm start n).acted ≡ acted = ap (λ (s : State). s.acted) e in
    let other-is : (after tfm start m).acted ≡ other = ap (λ (s : State). s.acted) f in
    elim (apart n m) [
      | inl p ↦
          let same : (after tfm start m).acted ≡ (after tfm start n).acted =
          ap (λ (i : ℕ). (after tfm start i).acted) p.1 ∙ ap (λ (s : State). s.acted) (after-end tfm start n p.0 over) in
          omega (arith, same, acted-is, other-is)
      | inr p ↦
          let grown = after-acted tfm start m p.0 in
          let there : (after tfm start (m + p.0)).acted ≡ (after tfm start n).acted =
          ap (λ (i : ℕ). (after tfm start i).acted) (sym p.1) in
          omega (arith, grown, there, acted-is, other-is)
    ]

-- there is one end at most
end-unique-later : (tfm : Tfm) (start : List Symbol) (n m : ℕ) (s t : State) → after tfm start n ≡ s → after tfm start m ≡ t
    → s.ahead ≡ [] → (k : ℕ) → m ≡ n + k → t ≡ s
end-unique-later tfm start n m s t e f over k later =
    sym f ∙ ap (after tfm start) later ∙ after-end tfm start n k (ap (λ (s : State). s.ahead) e ∙ over) ∙ e

pub end-unique : (tfm : Tfm) (start : List Symbol) (acted other : ℕ) (symbols others : List Symbol)
    → Reached tfm start acted symbols [] → Reached tfm start other others [] → others ≡ symbols
end-unique tfm start acted other symbols others ends comes =
    let (n, e) = reached-after tfm start acted symbols [] ends in
    let (m, f) = reached-after tfm start other others [] comes in
    let s = at_state acted symbols [] in
    let t = at_state other others [] in
    elim (apart n m) [
      | inl p ↦ ap (λ (s : State). s.before) (end-unique-later tfm start n m s t e f refl p.0 p.1)
      | inr p ↦ sym (ap (λ (s : State). s.before) (end-unique-later tfm start m n t s f e refl p.0 p.1))
    ]

-- the glyphs of an end are the only ones
pub glyphs-unique : (tfm : Tfm) (start : List Symbol) (limit : ℕ) (glyphs others : List Glyph)
    → EndsWithin tfm start limit glyphs → EndsWithin tfm start limit others → others ≡ glyphs
glyphs-unique tfm start limit glyphs others x y =
    sym y.gives ∙ ap glyphs_of (end-unique tfm start x.acted y.acted x.symbols y.symbols x.ends y.ends) ∙ x.gives

-- what comes to its end within the limit doesn't go past it
pub ends-or_past : (tfm : Tfm) (start : List Symbol) (limit : ℕ) (glyphs : List Glyph)
    → EndsWithin tfm start limit glyphs → GoesPast tfm start limit → ⊥
ends-or_past tfm start limit glyphs x y =
    let most = acted-le_end tfm start x.acted y.acted x.symbols y.before y.ahead x.ends y.comes in
    let within = x.within in
    let past = y.past in
    omega (arith, most, within, past)
