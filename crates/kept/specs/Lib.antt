-- The kept state: what it holds, its operations, how the code's record is read, and what is claimed.
pub mod State
pub mod Operations
pub mod Converting
pub mod Held
pub mod Inner
pub mod Claims
