pub mod Forming
pub mod Taking
