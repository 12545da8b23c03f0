pub mod Binding
pub mod Order
pub mod Step
