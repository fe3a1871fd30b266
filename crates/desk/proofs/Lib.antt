pub mod Making
pub mod Written
pub mod Faults
