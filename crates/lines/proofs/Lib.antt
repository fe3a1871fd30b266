pub mod Lengths
pub mod Records
