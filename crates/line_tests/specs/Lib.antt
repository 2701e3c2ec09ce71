pub mod Simple
