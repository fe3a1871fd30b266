pub mod FitsWords
