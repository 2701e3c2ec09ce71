pub mod Parts
pub mod Spaces
pub mod Runs
pub mod Given
pub mod Counts
pub mod Mixing
pub mod Paragraph
