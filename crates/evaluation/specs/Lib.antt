pub mod Evaluated
pub mod Words
