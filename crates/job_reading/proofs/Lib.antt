pub mod Digits
pub mod Keeping
pub mod Repeats
pub mod Bounds
pub mod PlainReading
