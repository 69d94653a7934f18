-- Angles in degrees. Assumes nothing.
use Rattle.std.specs.Prelude.{cond, Float}
use Rattle.std.specs.Float.{binary64}
use Rattle.std.specs.Float.Ieee.{rem, lt}
use Rattle.paper.specs.Floats.{◌⊕◌, ◌⊘◌, dec}

-- Rust's `x.rem_euclid(d)` for a d above zero: the remainder with the sign of x, and d more where that is below zero
unfoldable pub rem_euclid : Float → Float → Float
rem_euclid x d = let r = rem binary64 x d in cond (lt r (dec 0 0)) (r ⊕ d) r

-- Rust's `rem_euclid(360.0)`: the remainder with the sign of x, and a turn more where that is below zero
unfoldable pub norm360 : Float → Float
norm360 x = let r = rem binary64 x (dec 360 0) in cond (lt r (dec 0 0)) (r ⊕ dec 360 0) r

-- a degree in radians: the f64 nearest to pi, over 180
unfoldable pub deg : Float
deg = dec 3141592653589793 15 ⊘ dec 180 0
