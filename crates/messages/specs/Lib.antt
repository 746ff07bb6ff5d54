pub mod Causes
pub mod Layout
pub mod Composing
pub mod Reading
pub mod Returning
