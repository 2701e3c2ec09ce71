pub mod GlyphLemmas
pub mod EndLemmas
pub mod LawfulLemmas
