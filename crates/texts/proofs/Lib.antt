pub mod Lines
pub mod Examples
pub mod Pairs
pub mod Reading
pub mod Spaces
pub mod Words
