pub mod Marks
pub mod Answers
