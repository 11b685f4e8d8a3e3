-- What the contracts of `report` cite.
pub mod Text
pub mod Report
pub mod Promises
