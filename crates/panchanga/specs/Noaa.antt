-- Sunrise and sunset after NOAA's solar calculator, operation by operation, each rounded once, in the Rust's order. Assumes nothing.
use Rattle.std.specs.Prelude.{ℕ, cond, ◌&&◌, Float, None, Option, Some}
use Rattle.paper.specs.Floats.{◌⊕◌, ◌⊖◌, ◌⊗◌, ◌⊘◌, dec}
use Rattle.gregorian.specs.Instants.{instant, zero_of}
use Rattle.trig.specs.Trig.{sine, cosine, tangent, arcsine, arccosine, within_one}
use Rattle.sky.specs.Angles.{deg}
use Rattle.sky.specs.Time.{square, tt_of, julian_centuries}
use Rattle.sky.specs.Sun.{mean_longitude, anomaly, sun_longitude}
use Rattle.panchanga.specs.declared.Place.{Place}

-- noon at a longitude, `julian_day` at 0.5 less the longitude's part of a turn, and its centuries since J2000.0
unfoldable pub noon_at : Float → Float → Float
noon_at lon zero = zero ⊕ dec 5 1 ⊖ lon ⊘ dec 360 0

unfoldable pub centuries_at : Float → Float → Float
centuries_at lon zero = julian_centuries (tt_of (noon_at lon zero))

-- ---- at t centuries
-- the obliquity of the ecliptic in degrees
unfoldable pub obliquity : Float → Float
obliquity t = dec 23439291 6 ⊖ dec 130042 7 ⊗ t

-- the eccentricity of the Earth's orbit
unfoldable pub eccentricity : Float → Float
eccentricity t = dec 16708634 9 ⊖ dec 42037 9 ⊗ t ⊖ dec 1267 10 ⊗ t ⊗ t

-- the sun's declination in radians, by its longitude
unfoldable pub declination : Float → Float → Float
declination t lambda = arcsine (sine (obliquity t ⊗ deg) ⊗ sine (lambda ⊗ deg))

-- the equation of time in minutes, by y, the eccentricity, and the mean longitude and anomaly in radians
unfoldable pub time_equation : Float → Float → Float → Float → Float
time_equation y e l0r mr =
    dec 4 0 ⊘ deg
    ⊗ (y ⊗ sine (dec 2 0 ⊗ l0r) ⊖ dec 2 0 ⊗ e ⊗ sine mr ⊕ dec 4 0 ⊗ e ⊗ y ⊗ sine mr ⊗ cosine (dec 2 0 ⊗ l0r)
    ⊖ dec 5 1 ⊗ y ⊗ y ⊗ sine (dec 4 0 ⊗ l0r) ⊖ dec 125 2 ⊗ e ⊗ e ⊗ sine (dec 2 0 ⊗ mr))

-- by the mean longitude and anomaly in degrees; y is the square of the tangent of half the obliquity
unfoldable pub equation_of_time : Float → Float → Float → Float
equation_of_time t l0 m = time_equation (square (tangent (obliquity t ⊗ deg ⊘ dec 2 0))) (eccentricity t) (l0 ⊗ deg) (m ⊗ deg)

-- ---- at a place
-- the cosine of the hour angle at which the sun's upper edge stands at the horizon: 90.833 degrees have refraction and semidiameter in them
unfoldable pub cos_hour_angle : Float → Float → Float
cos_hour_angle lat decl =
    cosine (dec 90833 3 ⊗ deg) ⊘ (cosine (lat ⊗ deg) ⊗ cosine decl) ⊖ tangent (lat ⊗ deg) ⊗ tangent decl

-- true noon as a fraction of the day
unfoldable pub solar_noon : Float → Float → Float
solar_noon lon eot = (dec 720 0 ⊖ dec 4 0 ⊗ lon ⊖ eot) ⊘ dec 1440 0

-- the time from sunrise to noon as a fraction of the day, by the hour angle's cosine: four minutes a degree
unfoldable pub half_day : Float → Float
half_day c = arccosine c ⊘ deg ⊗ dec 4 0 ⊘ dec 1440 0

-- both of them, if they are instants
unfoldable pub events_around : Float → Float → Option (Float × Float)
events_around noon half = cond (instant (noon ⊖ half) && instant (noon ⊕ half)) (Some (noon ⊖ half, noon ⊕ half)) None

-- sunrise and sunset at a place on the day whose 0h is given; none where the sun does not rise or set. Midnight is `julian_day` at 0.0
unfoldable pub sun_events : Place → Float → Option (Float × Float)
sun_events p zero =
    let t = centuries_at p.longitude zero in
    let c = cos_hour_angle p.latitude (declination t (sun_longitude t)) in
    let noon = zero ⊕ dec 0 0 ⊕ solar_noon p.longitude (equation_of_time t (mean_longitude t) (anomaly t)) in
    cond (within_one c) (events_around noon (half_day c)) None

-- by the day's number
unfoldable pub events_on : Place → ℕ → Option (Float × Float)
events_on p n = sun_events p (zero_of n)

-- the place of the festivals and of every call that names none
abbrev pub kathmandu : Place
kathmandu = record { latitude = dec 277172 4; longitude = dec 853240 4 }
