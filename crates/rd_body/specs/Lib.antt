pub mod Renaming
pub mod Code
pub mod Jobs
pub mod Home
pub mod Erasure
