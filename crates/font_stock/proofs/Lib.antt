pub mod Causes
pub mod Characters
pub mod Limits
pub mod Sizes
pub mod WholeSteps
