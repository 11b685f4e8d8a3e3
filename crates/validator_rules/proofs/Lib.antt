-- The laws of `validator_rules`.
pub mod Sending
pub mod Reading
pub mod Exact
pub mod Past
pub mod Telling
pub mod Booking
pub mod Tabling
pub mod Single
pub mod Agreeing
