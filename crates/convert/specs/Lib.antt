-- What `convert` reads and writes.
pub mod Lines
pub mod Replies
pub mod Written
