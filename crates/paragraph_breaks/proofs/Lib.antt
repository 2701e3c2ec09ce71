pub mod WayPlaces
pub mod LooseWays
pub mod TakenPasses
pub mod LineEnds
pub mod LeastTotals
pub mod PassSteps
pub mod BrokenLists
