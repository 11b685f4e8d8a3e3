-- What the contract of `error_codes` cites.
pub mod Errors
pub mod Promises
