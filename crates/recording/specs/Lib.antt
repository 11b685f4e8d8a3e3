-- What the contracts of `recording` cite.
pub mod Record
pub mod Reading
pub mod Taking
pub mod Scaffolding
pub mod Promises
pub mod Outcome
pub mod Verdict
pub mod NextRecord
pub mod Glance
