pub mod Carried
pub mod Size
pub mod Tied
