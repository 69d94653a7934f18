-- What the theorems say.
pub mod Composed
pub mod Examples
pub mod Kept
pub mod Once
pub mod SmallSky
pub mod Steady
