pub mod Show
pub mod Changes
