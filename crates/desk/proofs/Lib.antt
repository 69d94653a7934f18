-- The laws of `desk`.
pub mod Answered
pub mod Turns
