-- The moon's elongation from the sun, and the tithi, one thirtieth of a lunation. Assumes nothing.
use Rattle.std.specs.Prelude.{ℕ, zero, suc, ◌+◌, ◌*◌, cond, pos, Float}
use Rattle.std.specs.Float.Ieee.{le}
use Rattle.paper.specs.Floats.{◌⊖◌, whole}
use Rattle.sky.specs.Time.{tt_of, julian_centuries}
use Rattle.sky.specs.Angles.{norm360}
use Rattle.sky.specs.Sun.{sun_longitude}
use Rattle.sky.specs.Moon.{moon_longitude}

-- the elongation at a day of universal time
unfoldable pub elongation_of : Float → Float
elongation_of ut = let t = julian_centuries (tt_of ut) in norm360 (moon_longitude t ⊖ sun_longitude t)

-- how many of 12, 24, .., 12 n are not above x
unfoldable pub twelves : Float → ℕ → ℕ
twelves x zero = 0
twelves x (suc n) = twelves x n + cond (le (whole (pos (12 * (n + 1)))) x) 1 0

-- 1 plus how many of 12, 24, .., 348 are not above the elongation
unfoldable pub tithi_of : Float → ℕ
tithi_of x = 1 + twelves x 29
