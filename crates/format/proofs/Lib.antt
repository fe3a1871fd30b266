pub mod Tables
pub mod Formats
pub mod Lengths
