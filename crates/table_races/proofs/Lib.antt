pub mod CrewLemmas
pub mod FontLemmas
