pub mod Bytes
pub mod Gaps
pub mod Adjoining
pub mod Once
pub mod Neighbours
pub mod Ahead
pub mod PlainTokens
