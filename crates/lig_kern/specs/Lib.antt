pub mod Symbols
pub mod Programs
pub mod Rewriting
pub mod Running
pub mod Covering
pub mod Outcome
pub mod Plain
