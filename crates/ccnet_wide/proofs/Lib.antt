-- The laws of `ccnet_wide`.
pub mod Frames
pub mod Planned
pub mod Trips
pub mod Exact
pub mod Noise
pub mod Tied
