-- How many lines a list has, and how wide they are.
--     few-breaks             there is at most one line more than there are items
--     ends-low, ends-high    where a line ends is a length
use Rattle.std.proofs.Common.{ℕ, zero, suc, ◌<◌, ◌≤◌, add-one, arith, List, [], ◌∷◌, length}
use Rattle.std.specs.Prelude.{All, slice_index}
use Rattle.break_rule.specs.Fits.{Rule}
use Rattle.break_rule.specs.Made.{IsPlace}
use Rattle.paragraph_breaks.specs.Outcome.{Rise}

climbs : (breaks : List ℕ) → Rise breaks → (k : ℕ) → k < length breaks → k ≤ slice_index breaks k
climbs breaks rise zero inside = omega arith
climbs breaks rise (suc k) inside =
    let below = climbs breaks rise k (omega (arith, inside)) in
    let step : slice_index breaks k < slice_index breaks (suc k) = rw add-one at (rise k (omega (arith, inside))) in
    omega (arith, below, step)

pub few-breaks : (rule : Rule) (breaks : List ℕ) → All (IsPlace rule) breaks → Rise breaks → length rule.items ≤ 65536 → length breaks ≤ 65537
few-breaks rule [] legal rise few = omega arith
few-breaks rule (b ∷ breaks) legal rise few =
    let k : ℕ = length breaks in
    let inside : k < length (b ∷ breaks) = omega arith in
    let high = climbs (b ∷ breaks) rise k inside in
    let place = legal k 0 inside in
    let within : slice_index (b ∷ breaks) k ≤ length rule.items = place.within in
    omega (arith, high, within, few)
