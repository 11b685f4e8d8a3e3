-- What a call of a line does.
pub mod Made
