pub mod Encoded
pub mod Classes
pub mod Bounds
pub mod Only
pub mod Found
pub mod Stops
