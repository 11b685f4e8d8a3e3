-- What the contracts of `ccnet_check` cite.
pub mod Check
