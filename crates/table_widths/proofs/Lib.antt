pub mod Numbers
pub mod Touched
