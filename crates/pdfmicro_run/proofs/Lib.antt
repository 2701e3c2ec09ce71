pub mod ExactRuns
pub mod Headlines
pub mod PiecesLaws
pub mod TextsLaws
pub mod WordsTold
