pub mod Fonts
pub mod Making
pub mod Ranges
pub mod Refusals
pub mod Scaling
pub mod Sizes
pub mod Steps
