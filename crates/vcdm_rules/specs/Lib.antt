-- What the contracts of `vcdm` cite, and what is promised of its session.
pub mod Account
pub mod Session
pub mod Calls
pub mod Unit
pub mod History
pub mod Promises
pub mod Reply
pub mod Step
pub mod Outcome
