-- Conversion between Bikram Sambat and Gregorian dates, over a lent year table.
pub mod Calendar
pub mod Flat
pub mod Own
pub mod Inner
pub mod Claims
