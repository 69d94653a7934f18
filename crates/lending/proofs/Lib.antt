-- The laws of `lending`.
pub mod Forms
pub mod Loans
