pub mod Asked
pub mod Longer
pub mod Cells
pub mod Theorems
