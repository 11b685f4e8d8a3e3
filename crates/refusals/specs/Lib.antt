-- When a call refuses, and with which number.
pub mod Rules
pub mod Numbers
pub mod Put
pub mod Promises
