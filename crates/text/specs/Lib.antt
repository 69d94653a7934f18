-- What the contracts of `text` are written in.
pub mod Digits
pub mod Reading
pub mod Dashed
pub mod Written
pub mod Kept
pub mod Fronts
pub mod Quoted
