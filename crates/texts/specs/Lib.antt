pub mod Buffers
pub mod Commands
pub mod Texts
