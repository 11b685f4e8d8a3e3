-- What the contracts of `live` cite, and what is promised.
pub mod Live
pub mod Entering
pub mod Promises
pub mod Entry
