-- Which counts of a shelf an answer raises, in words of this project's own.
use Rattle.std.specs.Prelude.{◌≡◌, ℕ, Result, Err}
use Rattle.outside_io.specs.Counts.{RisesBy}
use Rattle.outside_io.specs.declared.faults.ShelfFault.{ShelfFault}
use Rattle.outside_io.specs.declared.faults.ShelfFault.TheVariants.{Absent, TooLong, Failed}
use Rattle.outside_io.specs.declared.tally.ShelfCounts.{ShelfCounts}

-- how many absences, excesses and faults an answer is
abbrev pub absences_of : {Bytes : Type 0} → Result Bytes ShelfFault → ℕ
absences_of (Err Absent) = 1
absences_of _ = 0

abbrev pub excesses_of : {Bytes : Type 0} → Result Bytes ShelfFault → ℕ
excesses_of (Err (TooLong count)) = 1
excesses_of _ = 0

abbrev pub faults_of : {Bytes : Type 0} → Result Bytes ShelfFault → ℕ
faults_of (Err Failed) = 1
faults_of _ = 0

-- nothing was counted yet
pub record IsZero (counts : ShelfCounts) : Type 0 where
  pub calls : counts.calls.times ≡ 0
  pub absences : counts.absences.times ≡ 0
  pub excesses : counts.excesses.times ≡ 0
  pub faults : counts.faults.times ≡ 0

-- an answer raised its own count and no other
pub record Blames {Bytes : Type 0} (answer : Result Bytes ShelfFault) (old new : ShelfCounts) : Type 0 where
  pub calls : new.calls.times ≡ old.calls.times
  pub absences : RisesBy (absences_of answer) old.absences.times new.absences.times
  pub excesses : RisesBy (excesses_of answer) old.excesses.times new.excesses.times
  pub faults : RisesBy (faults_of answer) old.faults.times new.faults.times

-- one call with this answer: it raised the calls, its own count and no other
pub record Tallied {Bytes : Type 0} (answer : Result Bytes ShelfFault) (old new : ShelfCounts) : Type 0 where
  pub calls : RisesBy 1 old.calls.times new.calls.times
  pub absences : RisesBy (absences_of answer) old.absences.times new.absences.times
  pub excesses : RisesBy (excesses_of answer) old.excesses.times new.excesses.times
  pub faults : RisesBy (faults_of answer) old.faults.times new.faults.times
