pub mod OneFont
pub mod SimpleLaws
