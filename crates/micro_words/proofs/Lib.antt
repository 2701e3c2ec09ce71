pub mod Prose
pub mod Numerals
pub mod Commands
pub mod Fonts
pub mod Taken
pub mod Lengths
