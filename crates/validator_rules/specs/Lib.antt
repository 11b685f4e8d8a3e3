-- What the contracts of `validator` cite, and what is promised of it.
pub mod Limits
pub mod Line
pub mod Bills
pub mod Session
pub mod Calls
pub mod Promises
pub mod History
pub mod Reply
pub mod Found
pub mod Outcome
