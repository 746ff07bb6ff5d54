pub mod Commands
pub mod Printing
pub mod Replies
