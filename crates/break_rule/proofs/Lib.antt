pub mod StepLaws
pub mod Totals
mod MarginLaws
mod ScanLaws
mod Ranks
mod SharingLaws
mod LineMargins
mod MeasureLaws
mod PieceLaws
mod PackableLaws
pub mod Lookups
pub mod RangeSteps
mod ScanReads
mod ScanSteps
mod KeptReads
mod BeginLaws
