pub mod Kinds
pub mod Calls
pub mod ExactLists
pub mod Hashes
pub mod Blooms
pub mod BloomLaws
pub mod Bits
pub mod ExactLaws
