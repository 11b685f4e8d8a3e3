-- What the contracts of `ccnet_wide` cite.
pub mod Wide
pub mod Promises
pub mod Noise
pub mod Judged
