-- What the contracts of `pretend` cite, what is promised of the device, and the two ends together.
pub mod Limits
pub mod Wire
pub mod Tally
pub mod Device
pub mod Calls
pub mod History
pub mod Promises
pub mod Bench
pub mod Histories
pub mod Worked
pub mod Stray
pub mod Reply
