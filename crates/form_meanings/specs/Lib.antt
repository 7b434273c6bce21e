pub mod Firsts
pub mod Meaning
pub mod Words
