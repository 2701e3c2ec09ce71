pub mod ParLines
pub mod PassTaken
