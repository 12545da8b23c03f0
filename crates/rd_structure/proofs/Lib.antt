pub mod Behind
pub mod Layers
pub mod Digits
pub mod Free
pub mod FreeValues
pub mod FreeNodes
pub mod FreeStatements
pub mod FreeStructures
