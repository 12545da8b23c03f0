pub mod Refusals
pub mod Spelling
pub mod Options
pub mod Special
pub mod Uses
pub mod Names
