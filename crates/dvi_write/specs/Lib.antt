pub mod Commands
pub mod Document
pub mod Worked
pub mod Output
pub mod Writable
pub mod Writing
pub mod Stacking
