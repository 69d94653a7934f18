-- The sun's place at t centuries after J2000.0, Meeus ch. 25, operation by operation, each rounded once. Assumes nothing.
use Rattle.std.specs.Prelude.{Float}
use Rattle.paper.specs.Floats.{◌⊕◌, ◌⊖◌, ◌⊗◌, dec}
use Rattle.trig.specs.Trig.{sine}
use Rattle.sky.specs.Angles.{norm360, deg}
use Rattle.sky.specs.declared.sun.SunPlace.{SunPlace}

-- the mean longitude, (25.2)
unfoldable pub mean_longitude : Float → Float
mean_longitude t = dec 28046646 5 ⊕ dec 3600076983 5 ⊗ t ⊕ dec 3032 7 ⊗ t ⊗ t

-- the mean anomaly, (25.3)
unfoldable pub anomaly : Float → Float
anomaly t = dec 35752911 5 ⊕ dec 3599905029 5 ⊗ t ⊖ dec 1537 7 ⊗ t ⊗ t

-- the equation of the center at the anomaly m
unfoldable pub center : Float → Float → Float
center t m =
    (dec 1914602 6 ⊖ dec 4817 6 ⊗ t ⊖ dec 14 6 ⊗ t ⊗ t) ⊗ sine (m ⊗ deg)
    ⊕ (dec 19993 6 ⊖ dec 101 6 ⊗ t) ⊗ sine (dec 2 0 ⊗ m ⊗ deg)
    ⊕ dec 289 6 ⊗ sine (dec 3 0 ⊗ m ⊗ deg)

-- the true longitude, by the mean longitude and the anomaly m
abbrev pub true_longitude : Float → Float → Float → Float
true_longitude t mean m = mean ⊕ center t m

-- from 0 to 360
unfoldable pub sun_longitude : Float → Float
sun_longitude t = norm360 (true_longitude t (mean_longitude t) (anomaly t))

-- all three
abbrev pub sun_at : Float → SunPlace
sun_at t = record { mean = mean_longitude t; anomaly = anomaly t; longitude = sun_longitude t }
