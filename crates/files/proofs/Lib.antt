pub mod Made
pub mod Fits
pub mod Whole
pub mod Told
