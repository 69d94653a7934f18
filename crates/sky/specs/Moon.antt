-- The moon's longitude at t centuries after J2000.0, Meeus ch. 47, operation by operation, each rounded once. Assumes nothing.
use Rattle.std.specs.Prelude.{ℕ, zero, suc, ◌+◌, ◌*◌, List, ℤ, pos, negsuc, get_or, Float}
use Rattle.paper.specs.Floats.{◌⊕◌, ◌⊖◌, ◌⊗◌, ◌⊘◌, dec, whole}
use Rattle.trig.specs.Trig.{sine}
use Rattle.sky.specs.Time.{cube, fourth}
use Rattle.sky.specs.Angles.{norm360, deg}
use Rattle.sky.specs.MoonTable.{moon_terms}
use Rattle.sky.specs.declared.moon.MoonArgs.{MoonArgs}
use Rattle.sky.specs.declared.moon.Term.{Term}

-- the mean longitude L', (47.1)
unfoldable pub mean_place : Float → Float
mean_place t = dec 2183164477 7 ⊕ dec 48126788123421 8 ⊗ t ⊖ dec 15786 7 ⊗ t ⊗ t ⊕ cube t ⊘ dec 538841 0 ⊖ fourth t ⊘ dec 65194000 0

-- the mean elongation D, (47.2)
unfoldable pub mean_elongation : Float → Float
mean_elongation t = dec 2978501921 7 ⊕ dec 4452671114034 7 ⊗ t ⊖ dec 18819 7 ⊗ t ⊗ t ⊕ cube t ⊘ dec 545868 0 ⊖ fourth t ⊘ dec 113065000 0

-- the sun's mean anomaly M, (47.3)
unfoldable pub sun_anomaly : Float → Float
sun_anomaly t = dec 3575291092 7 ⊕ dec 359990502909 7 ⊗ t ⊖ dec 1536 7 ⊗ t ⊗ t ⊕ cube t ⊘ dec 24490000 0

-- the moon's mean anomaly M', (47.4)
unfoldable pub moon_anomaly : Float → Float
moon_anomaly t = dec 1349633964 7 ⊕ dec 4771988675055 7 ⊗ t ⊕ dec 87414 7 ⊗ t ⊗ t ⊕ cube t ⊘ dec 69699 0 ⊖ fourth t ⊘ dec 14712000 0

-- the argument of latitude F, (47.5)
unfoldable pub argument_of_latitude : Float → Float
argument_of_latitude t = dec 932720950 7 ⊕ dec 4832020175233 7 ⊗ t ⊖ dec 36539 7 ⊗ t ⊗ t ⊖ cube t ⊘ dec 3526000 0 ⊕ fourth t ⊘ dec 863310000 0

-- what the eccentricity of the earth's orbit takes from terms in M, E of (47.6)
unfoldable pub eccentricity_factor : Float → Float
eccentricity_factor t = dec 1 0 ⊖ dec 2516 6 ⊗ t ⊖ dec 74 7 ⊗ t ⊗ t

abbrev pub moon_args : Float → MoonArgs
moon_args t = record {
  mean = mean_place t;
  elongation = mean_elongation t;
  sun = sun_anomaly t;
  moon = moon_anomaly t;
  node = argument_of_latitude t;
  factor = eccentricity_factor t;
}

-- ---- the series
-- E to the power of the magnitude of M's multiple, at most 2
unfoldable pub factor_power : Float → ℤ → Float
factor_power e (pos zero) = dec 1 0
factor_power e (pos (suc zero)) = e
factor_power e (pos (suc (suc n))) = e ⊗ e
factor_power e (negsuc zero) = e
factor_power e (negsuc (suc n)) = e ⊗ e

-- the angle of a term in radians
abbrev pub angle : MoonArgs → Term → Float
angle a x =
    (whole x.elongation ⊗ a.elongation ⊕ whole x.sun ⊗ a.sun ⊕ whole x.moon ⊗ a.moon ⊕ whole x.node ⊗ a.node) ⊗ deg

-- a term: its coefficient, E as often as M stands in its angle, and the sine of the angle
abbrev pub term : MoonArgs → Term → Float
term a x = whole x.coefficient ⊗ factor_power a.factor x.sun ⊗ sine (angle a x)

-- the first for 0, the second for any other number
unfoldable pub zero_or : ℤ → Float → Float → Float
zero_or (pos zero) a b = a
zero_or (pos (suc n)) a b = b
zero_or (negsuc n) a b = b

-- row i of a table
abbrev pub term_at : List ℤ → ℕ → Term
term_at rows i = record {
  elongation = get_or rows (5 * i) (pos 0);
  sun = get_or rows (5 * i + 1) (pos 0);
  moon = get_or rows (5 * i + 2) (pos 0);
  node = get_or rows (5 * i + 3) (pos 0);
  coefficient = get_or rows (5 * i + 4) (pos 0);
}

-- the terms of the first n rows of a table, added to 0.0 one by one in the order of the table; a row whose coefficient is 0 adds none
unfoldable pub series : List ℤ → MoonArgs → ℕ → Float
series rows a zero = dec 0 0
series rows a (suc n) = zero_or (term_at rows n).coefficient (series rows a n) (series rows a n ⊕ term a (term_at rows n))

-- all sixty
unfoldable pub moon_sum : MoonArgs → Float
moon_sum a = series moon_terms a 60

-- the angles A1 of Venus and A2 of Jupiter, in degrees
unfoldable pub venus : Float → Float
venus t = dec 11975 2 ⊕ dec 131849 3 ⊗ t

unfoldable pub jupiter : Float → Float
jupiter t = dec 5309 2 ⊕ dec 479264290 3 ⊗ t

-- the additive terms: Venus, the flattening of the earth, Jupiter
unfoldable pub additive : Float → MoonArgs → Float
additive t a =
    dec 3958 0 ⊗ sine (venus t ⊗ deg) ⊕ dec 1962 0 ⊗ sine ((a.mean ⊖ a.node) ⊗ deg) ⊕ dec 318 0 ⊗ sine (jupiter t ⊗ deg)

unfoldable pub moon_longitude : Float → Float
moon_longitude t = norm360 (mean_place t ⊕ (moon_sum (moon_args t) ⊕ additive t (moon_args t)) ⊘ dec 1000000 0)
