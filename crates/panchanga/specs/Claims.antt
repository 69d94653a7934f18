-- What is claimed of the sun's events: each angle and each arc's argument is one that is served (proofs/Angles.antt). Assumes nothing.
use Rattle.std.specs.Prelude.{T, Float}
use Rattle.paper.specs.Floats.{◌⊗◌, ◌⊘◌, dec}
use Rattle.trig.specs.Trig.{in_range, within_one, sine}
use Rattle.sky.specs.Angles.{deg}
use Rattle.sky.specs.Sun.{mean_longitude, anomaly, sun_longitude}
use Rattle.panchanga.specs.Noaa.{obliquity, declination}

-- all of them at t centuries and a latitude
pub record Served (t lat : Float) : Type 0 where
  pub obliquity_angle : T (in_range (obliquity t ⊗ deg))
  pub longitude_angle : T (in_range (sun_longitude t ⊗ deg))
  pub declination_arc : T (within_one (sine (obliquity t ⊗ deg) ⊗ sine (sun_longitude t ⊗ deg)))
  pub half_obliquity : T (in_range (obliquity t ⊗ deg ⊘ dec 2 0))
  pub twice_mean : T (in_range (dec 2 0 ⊗ (mean_longitude t ⊗ deg)))
  pub four_mean : T (in_range (dec 4 0 ⊗ (mean_longitude t ⊗ deg)))
  pub anomaly_angle : T (in_range (anomaly t ⊗ deg))
  pub twice_anomaly : T (in_range (dec 2 0 ⊗ (anomaly t ⊗ deg)))
  pub horizon : T (in_range (dec 90833 3 ⊗ deg))
  pub latitude_angle : T (in_range (lat ⊗ deg))
  pub declination_angle : T (in_range (declination t (sun_longitude t)))
