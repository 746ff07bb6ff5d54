pub mod Events
pub mod Runs
pub mod Contents
pub mod Moves
pub mod Copies
pub mod Laws
pub mod Performing
