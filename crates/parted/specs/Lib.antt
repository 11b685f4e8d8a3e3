-- What the contracts of `parted` cite.
pub mod Parting
pub mod Remainder
pub mod Promises
pub mod Next
pub mod Due
