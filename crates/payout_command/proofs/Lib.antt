-- The laws of `payout_command`.
pub mod Sent
pub mod Tied
