pub mod Repeating
pub mod Slots
