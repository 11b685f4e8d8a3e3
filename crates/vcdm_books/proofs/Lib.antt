-- That the contracts are the booking of which the calls are made, and leave no choice.
pub mod Cited
pub mod Tied
