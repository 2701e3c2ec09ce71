pub mod Positions
pub mod Steps
pub mod CellNumbers
pub mod Marks
