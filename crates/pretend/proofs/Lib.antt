pub mod Telling
pub mod Cited
pub mod Tied
