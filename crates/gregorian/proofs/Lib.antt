pub mod Months
pub mod Laws
pub mod Julian
pub mod Instants
pub mod Unique
pub mod Examples
