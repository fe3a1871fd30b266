pub mod Start
pub mod Lengths
