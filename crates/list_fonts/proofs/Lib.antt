pub mod OverLaws
pub mod AlikeLaws
pub mod PartFonts
