-- The definitions of sine, cosine, the arcs and tangent.
pub mod Trig
pub mod Inner
