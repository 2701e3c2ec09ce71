pub mod CountLemmas
pub mod GlyphLemmas
pub mod PartLemmas
pub mod RunLemmas
pub mod Rows
pub mod TurnLemmas
pub mod MixLemmas
pub mod StockLemmas
