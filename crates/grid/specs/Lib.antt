-- What stepping a month and the cells of a month mean.
pub mod Step
pub mod Cells
pub mod Month
pub mod Kathmandu
pub mod Longer
pub mod Inner
pub mod Claims
