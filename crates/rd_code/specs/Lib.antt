pub mod Known
pub mod Mentions
pub mod Renaming
pub mod Numbering
pub mod Words
