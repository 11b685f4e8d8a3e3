pub mod View
pub mod History
