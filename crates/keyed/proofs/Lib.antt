pub mod Lines
pub mod Forms
pub mod Said
pub mod Walks
