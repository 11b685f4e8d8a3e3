-- What the contracts of `compare` cite.
pub mod Progress
