-- The laws of `ccnet_frame`.
pub mod Laying
pub mod Frames
pub mod Planned
pub mod Trips
pub mod Exact
pub mod Noise
pub mod Tied
