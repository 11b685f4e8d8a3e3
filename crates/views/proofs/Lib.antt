pub mod Told
pub mod Tied
