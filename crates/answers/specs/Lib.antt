-- What the contracts of `answers` are written in.
pub mod Days
pub mod Conversions
pub mod Trigonometry
pub mod Almanac
pub mod Heavens
pub mod Searches
