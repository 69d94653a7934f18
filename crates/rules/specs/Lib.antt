pub mod Rules
pub mod Lent
pub mod Sky
pub mod Days
pub mod Festivals
pub mod Resolved
pub mod Inner
pub mod Longer
