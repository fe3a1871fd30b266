pub mod Changes
pub mod Lengths
