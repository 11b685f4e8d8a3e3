-- The laws of `record_writer`.
pub mod Laying
pub mod Written
pub mod Trips
pub mod Tied
