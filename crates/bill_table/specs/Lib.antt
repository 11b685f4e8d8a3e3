-- What the contracts of `bill_table` cite.
pub mod Table
pub mod Worth
pub mod Promises
pub mod Total
