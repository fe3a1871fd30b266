pub mod Steps
pub mod Position
pub mod Answers
pub mod Stepping
