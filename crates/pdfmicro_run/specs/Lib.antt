pub mod Headline
pub mod Ran
