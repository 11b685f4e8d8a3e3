-- The laws of `dispenser_frame_rules`.
pub mod Codes
pub mod Raw
pub mod Exact
pub mod Trips
pub mod Told
