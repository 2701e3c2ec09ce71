-- What the workers of a race keep.
--     IsIdle t s       a seat of the table that builds nothing
--     IsFresh t s      and that was never answered past the last draw
--     Stays v w        which seat it is, and what was split off it and joined to it, are as before
--     IsLimit limit    a limit of expansion for which the fonts of the races are in range
--     numbers seats    the numbers of seats
--     numbers_upto n   the numbers from 1 to n
use Rattle.std.specs.Prelude.{◌≡◌, ◌⊎◌, ℕ, ◌+◌, false, List, map, Contains, None}
use Rattle.std.specs.List.{range_with_len}
use Rattle.instance_table.specs.declared.answers.Claim.{Claim}
use Rattle.instance_table.specs.declared.answers.Claim.TheVariants.{Won, Lost}
use Rattle.instance_table.specs.declared.view.View.{View}
use Rattle.instance_table.specs.Seats.{Standing, Sitting, IsSeatOf, HasStored}

abbrev pub IsIdle : Standing → Sitting → Type 0
IsIdle t s = IsSeatOf t s × (s.view.building ≡ None)

abbrev pub IsFresh : Standing → Sitting → Type 0
IsFresh t s = IsIdle t s × (s.view.ended ≡ false)

pub record Stays (v w : View) : Type 0 where
  pub number : w.number ≡ v.number
  pub made : w.made ≡ v.made
  pub joined : w.joined ≡ v.joined

-- a seat that won a cell has stored none of its widths, and one that lost builds nothing
abbrev pub Holds : Claim → View → Type 0
Holds Won v = HasStored v.building 0
Holds (Lost word) v = v.building ≡ None

abbrev pub IsLimit : ℕ → Type 0
IsLimit limit = (limit ≡ 20) ⊎ (limit ≡ 50)

abbrev pub numbers : List Sitting → List ℕ
numbers seats = map (λ s. s.view.number) seats

abbrev pub numbers_upto : ℕ → List ℕ
numbers_upto n = map (λ k. k + 1) (range_with_len 0 n)
