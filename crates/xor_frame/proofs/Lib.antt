pub mod Check
pub mod Lengths
pub mod Raw
pub mod Fields
pub mod Frames
pub mod Reading
pub mod Noise
pub mod Tied
