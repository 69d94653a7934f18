-- Universal and terrestrial time, operation by operation, each rounded once. ΔT after Espenak and Meeus, "Five Millennium Canon of Solar Eclipses",
-- polynomial expressions for delta T, as the Rust has them. Assumes nothing.
use Rattle.std.specs.Prelude.{Bool, cond, ◌&&◌, Float}
use Rattle.std.specs.Float.Ieee.{neg, lt, le}
use Rattle.paper.specs.Floats.{◌⊕◌, ◌⊖◌, ◌⊗◌, ◌⊘◌, dec}

-- powers: a square is number times number, a cube square times number, a fourth square of square, a fifth fourth times number
abbrev pub square : Float → Float
square t = t ⊗ t

abbrev pub cube : Float → Float
cube t = square t ⊗ t

abbrev pub fourth : Float → Float
fourth t = square t ⊗ square t

abbrev pub fifth : Float → Float
fifth t = fourth t ⊗ t

-- ---- ΔT in seconds, by the years after a piece's own year
unfoldable pub before1920 : Float → Float
before1920 t = neg (dec 279 2) ⊕ dec 1494119 6 ⊗ t ⊖ dec 598939 7 ⊗ t ⊗ t ⊕ dec 61966 7 ⊗ cube t ⊖ dec 197 6 ⊗ fourth t

unfoldable pub before1941 : Float → Float
before1941 t = dec 2120 2 ⊕ dec 84493 5 ⊗ t ⊖ dec 76100 6 ⊗ t ⊗ t ⊕ dec 20936 7 ⊗ cube t

unfoldable pub before1961 : Float → Float
before1961 t = dec 2907 2 ⊕ dec 407 3 ⊗ t ⊖ t ⊗ t ⊘ dec 233 0 ⊕ cube t ⊘ dec 2547 0

unfoldable pub before1986 : Float → Float
before1986 t = dec 4545 2 ⊕ dec 1067 3 ⊗ t ⊖ t ⊗ t ⊘ dec 260 0 ⊖ cube t ⊘ dec 718 0

unfoldable pub before2005 : Float → Float
before2005 t =
    dec 6386 2 ⊕ dec 3345 4 ⊗ t ⊖ dec 60374 6 ⊗ t ⊗ t ⊕ dec 17275 7 ⊗ cube t
    ⊕ dec 651814 9 ⊗ fourth t ⊕ dec 2373599 11 ⊗ fifth t

unfoldable pub before2050 : Float → Float
before2050 t = dec 6292 2 ⊕ dec 32217 5 ⊗ t ⊕ dec 5589 6 ⊗ t ⊗ t

-- from 2050 on, by the year itself
unfoldable pub after2050 : Float → Float
after2050 year = neg (dec 20 0) ⊕ dec 32 0 ⊗ square ((year ⊖ dec 1820 0) ⊘ dec 100 0) ⊖ dec 5628 4 ⊗ (dec 2150 0 ⊖ year)

unfoldable pub delta_t : Float → Float
delta_t year =
    cond (lt year (dec 1920 0)) (before1920 (year ⊖ dec 1900 0))
    (cond (lt year (dec 1941 0)) (before1941 (year ⊖ dec 1920 0))
    (cond (lt year (dec 1961 0)) (before1961 (year ⊖ dec 1950 0))
    (cond (lt year (dec 1986 0)) (before1986 (year ⊖ dec 1975 0))
    (cond (lt year (dec 2005 0)) (before2005 (year ⊖ dec 2000 0))
    (cond (lt year (dec 2050 0)) (before2050 (year ⊖ dec 2000 0))
    (after2050 year))))))

-- ---- the step from universal to terrestrial time
-- the year at a Julian day, near enough for ΔT
unfoldable pub year_of : Float → Float
year_of ut = dec 2000 0 ⊕ (ut ⊖ dec 2451545 0) ⊘ dec 36525 2

unfoldable pub tt_of : Float → Float
tt_of ut = ut ⊕ delta_t (year_of ut) ⊘ dec 86400 0

-- from 2,399,999.0 to 2,510,001.0, and no NaN
unfoldable pub tt_day : Float → Bool
tt_day x = le (dec 2399999 0) x && le x (dec 2510001 0)

-- the centuries since the epoch J2000.0, Meeus (22.1)
unfoldable pub julian_centuries : Float → Float
julian_centuries tt = (tt ⊖ dec 2451545 0) ⊘ dec 36525 0
