pub mod Bases
pub mod Cells
pub mod Instances
pub mod Numbered
pub mod Worked
