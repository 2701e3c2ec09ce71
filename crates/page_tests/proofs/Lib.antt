pub mod FewUses
pub mod FontFile
pub mod HalfWide
pub mod ThreeLetters
