-- The outside as contracts see it: a shelf and a sink at one time are what they hold, where they tell it, and
-- their counts. Words of this project's own.
--     ShelfState, SinkState     contents and counts
--     CountsFit                 each count is one machine word
--     shelf_state, sink_state   what the counts of this crate are in them
use Rattle.std.specs.Prelude.{ℕ, ◌^◌, ◌<◌, List, Option}
use Rattle.outside_io.specs.declared.counts.Count.{Count}
use Rattle.outside_io.specs.declared.tally.ShelfCounts.{ShelfCounts}

-- names and bytes
abbrev pub Files : Type 0
Files = List (List ℕ × List ℕ)

-- the files where they are told, the calls, and how often a file was absent, was longer than the limit, and could
-- not be read
pub record ShelfState : Type 0 where
  pub files : Option Files
  pub calls : ℕ
  pub absences : ℕ
  pub excesses : ℕ
  pub faults : ℕ

-- the bytes written where they are told, the calls and the faults
pub record SinkState : Type 0 where
  pub written : Option (List ℕ)
  pub calls : ℕ
  pub faults : ℕ

pub record ShelfCountsFit (state : ShelfState) : Type 0 where
  pub calls : state.calls < 2 ^ 64
  pub absences : state.absences < 2 ^ 64
  pub excesses : state.excesses < 2 ^ 64
  pub faults : state.faults < 2 ^ 64

pub record SinkCountsFit (state : SinkState) : Type 0 where
  pub calls : state.calls < 2 ^ 64
  pub faults : state.faults < 2 ^ 64

abbrev pub shelf_state : Option Files → ShelfCounts → ShelfState
shelf_state files counts = record {
  files = files;
  calls = counts.calls.times;
  absences = counts.absences.times;
  excesses = counts.excesses.times;
  faults = counts.faults.times;
}

abbrev pub sink_state : Option (List ℕ) → Count → Count → SinkState
sink_state written calls faults = record { written = written; calls = calls.times; faults = faults.times }
