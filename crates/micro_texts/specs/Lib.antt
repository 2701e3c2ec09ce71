pub mod Breaks
pub mod Messages
pub mod Reports
pub mod Status
