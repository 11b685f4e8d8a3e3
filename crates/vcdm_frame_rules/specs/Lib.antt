-- What the contracts of `vcdm_frame` cite.
pub mod Table
pub mod Command
pub mod Answer
pub mod Parts
pub mod Promises
pub mod CommandRead
pub mod AnswerRead
