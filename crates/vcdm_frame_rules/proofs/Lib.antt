-- The laws of `vcdm_frame_rules`.
pub mod Codes
pub mod Exact
pub mod Trips
pub mod Raw
