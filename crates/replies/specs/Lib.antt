-- What the contracts of `replies` are written in.
pub mod Replies
