-- Festivals over Kathmandu: the real sky, the lunar months of a year, and what the public calls answer.
pub mod Kathmandu
pub mod Months
pub mod Answers
pub mod Inner
