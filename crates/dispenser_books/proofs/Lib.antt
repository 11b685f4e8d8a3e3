pub mod Cited
pub mod Tied
