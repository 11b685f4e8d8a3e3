-- The laws of `error_codes`.
pub mod Published
pub mod Entries
pub mod Tied
