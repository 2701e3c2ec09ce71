pub mod Passes
pub mod Nearness
pub mod WayNodes
pub mod Outcome
