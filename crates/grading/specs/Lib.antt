-- What the inner functions of `grading` cite.
pub mod Scaffolding
