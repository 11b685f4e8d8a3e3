-- The laws of `parted`.
pub mod Equal
pub mod Turns
pub mod Standing
pub mod Turning
pub mod Omitted
pub mod Exact
pub mod Windows
pub mod Tied
