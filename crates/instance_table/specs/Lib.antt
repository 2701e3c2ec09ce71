pub mod Closing
pub mod Places
pub mod Plays
pub mod Rule
pub mod Seats
pub mod Steps
pub mod Totals
