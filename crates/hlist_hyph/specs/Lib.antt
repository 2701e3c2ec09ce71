pub mod Words
pub mod Pieces
pub mod Hyphenated
pub mod Untouched
pub mod Fonts
