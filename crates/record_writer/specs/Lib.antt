-- What the contracts of `record_writer` cite.
pub mod Writing
pub mod Promises
