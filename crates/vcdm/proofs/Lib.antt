-- That the contracts are the calls which the promises speak of, and leave no choice.
pub mod Cited
pub mod Tied
