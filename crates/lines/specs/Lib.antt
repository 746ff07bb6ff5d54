pub mod Lines
pub mod Offers
pub mod Orders
pub mod Places
pub mod StoreLaws
pub mod Stores
pub mod Views
