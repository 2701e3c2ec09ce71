pub mod BadWordsAlone
pub mod Breakings
pub mod Findings
pub mod GenSteps
pub mod OneOutcome
pub mod SameJobs
pub mod Settings
pub mod Steps
