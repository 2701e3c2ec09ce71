pub mod LegalPlaces
pub mod Demerits
pub mod Passes
