pub mod Verdict
pub mod Numbers
