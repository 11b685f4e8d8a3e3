-- What is promised of the desk at work, proved.
pub mod Replaying
