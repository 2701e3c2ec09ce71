pub mod StockCells
pub mod WritableOver
pub mod TouchedUses
