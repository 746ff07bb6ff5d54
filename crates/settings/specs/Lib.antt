pub mod Forms
pub mod Kinds
pub mod Colours
pub mod Links
pub mod ColourLaws
pub mod Same
pub mod LinkLaws
pub mod Words
