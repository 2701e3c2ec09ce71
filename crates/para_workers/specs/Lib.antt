pub mod Fitting
pub mod Lengths
pub mod Pages
pub mod SetPar
pub mod Touched
