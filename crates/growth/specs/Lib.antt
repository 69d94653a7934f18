-- What the contracts of `growth` are written in.
pub mod Growth
