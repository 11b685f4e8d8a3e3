-- What the contracts of `payout_command` cite.
pub mod Command
pub mod Promises
pub mod Sent
