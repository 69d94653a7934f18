-- What the words of a command ask, and why it is refused.
pub mod Outside
pub mod Refusals
pub mod Words
