-- What the contracts of `xor_frame` cite.
pub mod Layout
pub mod Frame
pub mod Parts
pub mod Promises
pub mod Noise
pub mod Verdict
