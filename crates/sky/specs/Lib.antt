-- The definitions that the contracts of `sky` cite, and what is claimed of them.
pub mod Time
pub mod Angles
pub mod Sun
pub mod MoonTable
pub mod Moon
pub mod Tithi
pub mod Search
pub mod Inner
pub mod Answers
pub mod Claims
