-- What the contracts of `ccnet_frame` cite, and what is promised of it.
pub mod Frame
pub mod Part
pub mod Parts
pub mod Promises
pub mod Noise
pub mod Judged
