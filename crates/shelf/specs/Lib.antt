-- The kept state as a list of numbers of sixteen bits: how it is written, and how it is read.
pub mod Numbers
pub mod Inner
