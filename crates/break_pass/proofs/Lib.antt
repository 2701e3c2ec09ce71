pub mod DemeritLaws
pub mod PlaceLaws
pub mod PassLaws
