-- What the functions of `grading_step` cite.
pub mod Scaffolding
