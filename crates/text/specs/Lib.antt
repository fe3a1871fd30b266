pub mod Text
pub mod Puts
pub mod Wrote
