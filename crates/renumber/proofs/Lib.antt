pub mod InsertedCells
pub mod UsedCells
pub mod FewUses
pub mod OneCell
