pub mod Crews
pub mod Gathering
pub mod SetJobs
pub mod Slots
pub mod Working
