pub mod PutLines
pub mod NodeWays
pub mod Tries
pub mod Actives
pub mod Joins
pub mod Places
pub mod Choices
pub mod EndedSweeps
