pub mod WorkTurns
pub mod CrewNumbers
pub mod Gathering
pub mod SlotPages
pub mod SlotCells
pub mod WholeJobs
