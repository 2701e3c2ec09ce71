pub mod Badnesses
pub mod Expansions
pub mod Floors
pub mod Halvings
pub mod Shapes
pub mod Signs
