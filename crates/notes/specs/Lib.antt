-- What the contracts of `notes` are written in.
pub mod Near
pub mod Lines
