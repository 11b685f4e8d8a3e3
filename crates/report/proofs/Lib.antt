pub mod Laying
pub mod Types
pub mod Values
pub mod TableBytes
pub mod Tied
pub mod Enough
