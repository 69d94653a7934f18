-- The parts of sine that the private functions promise. Assumes nothing.
use Rattle.std.specs.Prelude.{cond, Float}
use Rattle.paper.specs.Floats.{◌⊗◌}
use Rattle.trig.specs.Trig.{zero, per_half_turn, in_range, clamp, signed, nearest_whole, wave}

-- the wave of the sine of an angle that is not negative
unfoldable pub sine_wave : Float → Float
sine_wave a = let k = nearest_whole (a ⊗ per_half_turn) in wave a k k

-- the sine of x, by the wave of its size
unfoldable pub sine_of_wave : Float → Float → Float
sine_of_wave x w = cond (in_range x) (signed x (clamp w)) zero
