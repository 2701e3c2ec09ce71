mod Worked
pub mod RowLemmas
pub mod GreatestLemmas
pub mod PlaceLemmas
pub mod MergeLemmas
pub mod TableLemmas
pub mod SilentTables
