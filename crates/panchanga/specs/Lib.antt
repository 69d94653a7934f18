-- The definitions that the contracts of `panchanga` cite, and what is claimed of them.
pub mod Clock
pub mod Noaa
pub mod Kalas
pub mod Reading
pub mod Answers
pub mod Claims
