-- What the contract of `ccnet_class` cites, and what is promised of it.
pub mod Class
pub mod Promises
