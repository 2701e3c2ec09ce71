pub mod Counts
pub mod Reading
pub mod States
pub mod Tally
pub mod Writing
