pub mod Within
pub mod Runs
pub mod Lawful
