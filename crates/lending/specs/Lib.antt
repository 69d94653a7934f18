-- What the contracts of `lending` are written in.
pub mod Lending
