pub mod Structure
pub mod Values
