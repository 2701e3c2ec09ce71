pub mod Costs
pub mod Made
pub mod Trials
pub mod Standing
pub mod Joining
pub mod Choosing
