pub mod Misplaced
