-- What the contracts of `payout` cite.
pub mod Counts
pub mod Plan
pub mod Promises
pub mod Scaffolding
pub mod Planned
pub mod Found
