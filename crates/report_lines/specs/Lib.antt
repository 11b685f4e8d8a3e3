-- What the contracts of `report_lines` cite.
pub mod Text
pub mod Lines
pub mod Scaffolding
