pub mod Digest
pub mod Counts
