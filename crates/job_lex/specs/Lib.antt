pub mod Ahead
pub mod Answers
pub mod Category
pub mod Cursors
pub mod PlainTokens
pub mod Tokens
