-- The minute of the day that a clock in Nepal shows. Assumes nothing.
use Rattle.std.specs.Prelude.{ℕ, ◌+◌, ◌%◌, cond, pos, Float}
use Rattle.std.specs.Float.{binary64}
use Rattle.std.specs.Float.Ieee.{rem, lt, le}
use Rattle.paper.specs.Floats.{◌⊕◌, ◌⊖◌, ◌⊗◌, dec, whole, floor_of}
use Rattle.gregorian.specs.Instants.{local_day}

-- a number of at least 0.0, rounded half upward: its whole part, and one more where the rest is a half or more
unfoldable pub half_up : Float → ℕ
half_up x = let n = floor_of x in cond (le (dec 5 1) (x ⊖ whole (pos n))) (n + 1) n

-- the Rust's `round() as u32` on each f64: 0 for what is below 0.0 or no number, and 4,294,967,295 for what is larger
unfoldable pub rounded : Float → ℕ
rounded x = cond (le (dec 0 0) x) (cond (lt x (dec 4294967295 0)) (half_up x) 4294967295) 0

-- The minutes of a local fraction of the day, from 0.0 to below 1.0, modulo 1,440. The Rust's expression decides for every other f64 too:
-- whole days are left out as far as `rounded` counts, and what is below 0.0 or no number reads 0.
unfoldable pub minutes_of : Float → ℕ
minutes_of x = rounded (x ⊗ dec 24 0 ⊗ dec 60 0) % 1440

-- the Rust's `rem_euclid(1.0)`: the remainder with the sign of x, and one more where that is below zero
unfoldable pub fraction : Float → Float
fraction x = let r = rem binary64 x (dec 1 0) in cond (lt r (dec 0 0)) (r ⊕ dec 1 0) r

-- the clock's minute in Nepal, 0 to 1,439
unfoldable pub clock_of : Float → ℕ
clock_of x = minutes_of (fraction (local_day x))
