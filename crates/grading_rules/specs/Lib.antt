-- What the contracts of `grading` cite, and what is promised of it.
pub mod Replay
pub mod Feeding
pub mod Promises
