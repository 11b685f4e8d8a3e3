-- The laws of `ccnet_class`.
pub mod Classes
pub mod Tied
