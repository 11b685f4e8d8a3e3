-- The starred lines of the bench sheet.
pub mod Sheet
