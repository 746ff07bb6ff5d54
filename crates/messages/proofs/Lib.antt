mod Whole
pub mod Judging
mod Faultlessness
pub mod RoundTrip
