-- Each angle whose sine or cosine the sun's events take lies within the 100,000 radians that those serve, and each arc's argument from -1 to 1:
-- so their answers for what lies beyond are never met. Assumes nothing.
use Rattle.std.proofs.Common.{ℕ, ◌*◌, ◌^◌, Bool, ◌&&◌, T}
use lib.Ieee.{Float, neg, div, le, of_bits}
use lib.Ieee.Fits.{and_l, and_r}
use Rattle.paper.specs.Floats.{◌⊗◌, near, dec}
use Rattle.gregorian.specs.Instants.{zero_of}
use Rattle.trig.specs.Trig.{one, limit, in_range, sine}
use Rattle.sky.specs.Angles.{deg}
use Rattle.sky.specs.Sun.{mean_longitude, anomaly, sun_longitude}
use Rattle.sky.proofs.Norms.{upto_within}
use Rattle.sky.proofs.Numbers.{sine_number, tt_between, centuries_number, sun_upto}
use Rattle.sky.specs.Claims as Sky
use Rattle.sky.proofs.Served.{instant_angles}
use Rattle.panchanga.specs.declared.Place.{Place}
use Rattle.panchanga.specs.Noaa.{centuries_at, obliquity, declination, kathmandu}
use Rattle.panchanga.specs.Claims.{Served}
use Rattle.paper.proofs.Within.{Within, refined, clamped, inside, lit, got, ◌⊞◌, ◌⊟◌, ◌⊠◌, by, ◌⧄◌, within}
use Rattle.panchanga.proofs.Small.{tilt_sine, small_arc}
use Rattle.panchanga.proofs.Noon.{Dated, noon_instant}

-- bounds are in units of 2 ^ -20
abbrev far : ℕ
far = 100000 * 2 ^ 20

served : {x : Float} → Within 20 far x → T (in_range x)
unfolding of_bits
served p = inside limit p tt

module _ {t : Float} (p : Within 20 1680000 t) where
  obliquity_number : Within 20 24600000 (obliquity t)
  unfolding obliquity near
  obliquity_number = within 24600000 (lit (dec 23439291 6) ⊟ by (dec 130042 7) (got p)) tt

  -- 0.42 radians
  tilt : Within 20 440402 (obliquity t ⊗ deg)
  unfolding deg div near
  tilt = within 440402 (got obliquity_number ⊠ lit deg) tt

  mean_number : Within 20 (58100 * 2 ^ 20) (mean_longitude t)
  unfolding mean_longitude near
  mean_number = within (58100 * 2 ^ 20) (lit (dec 28046646 5) ⊞ by (dec 3600076983 5) (got p) ⊞ by (dec 3032 7) (got p) ⊠ got p) tt

  anomaly_number : Within 20 (58100 * 2 ^ 20) (anomaly t)
  unfolding anomaly near
  anomaly_number = within (58100 * 2 ^ 20) (lit (dec 35752911 5) ⊞ by (dec 3599905029 5) (got p) ⊟ by (dec 1537 7) (got p) ⊠ got p) tt

  product_number : Within 20 459000 (sine (obliquity t ⊗ deg) ⊗ sine (sun_longitude t ⊗ deg))
  product_number = within 459000 (got (tilt_sine tilt) ⊠ got (sine_number _)) tt

  longitude_number : Within 20 (360 * 2 ^ 20) (sun_longitude t)
  longitude_number = refined 20 tt (upto_within (sun_upto p))

  module _ {lat : Float} (l : T (le (neg (dec 90 0)) lat && le lat (dec 90 0))) where
    latitude-number : Within 20 (90 * 2 ^ 20) lat
    unfolding near
    latitude-number = clamped 20 (90 * 2 ^ 20) (dec 90 0) (and_l (le (neg (dec 90 0)) lat) (le lat (dec 90 0)) l) (and_r (le (neg (dec 90 0)) lat) (le lat (dec 90 0)) l) tt

    all-served : Served t lat
    unfolding deg div near of_bits declination
    all-served = record {
      obliquity_angle = served (within far (got tilt) tt);
      longitude_angle = served (within far (got longitude_number ⊠ lit deg) tt);
      declination_arc = inside one product_number tt;
      half_obliquity = served (within far (got tilt ⧄ dec 2 0) tt);
      twice_mean = served (within far (by (dec 2 0) (got mean_number ⊠ lit deg)) tt);
      four_mean = served (within far (by (dec 4 0) (got mean_number ⊠ lit deg)) tt);
      anomaly_angle = served (within far (got anomaly_number ⊠ lit deg) tt);
      twice_anomaly = served (within far (by (dec 2 0) (got anomaly_number ⊠ lit deg)) tt);
      horizon = served (within far (by (dec 90833 3) (lit deg)) tt);
      latitude_angle = served (within far (got latitude-number ⊠ lit deg) tt);
      declination_angle = served (within far (got (small_arc product_number)) tt);
    }

-- on every date, at every place
abbrev pub up_to : ℕ → Float → Bool
up_to k x = le (neg (dec k 0)) x && le x (dec k 0)

pub events_served : (p : Place) (n : ℕ) → T (up_to 90 p.latitude) → T (up_to 180 p.longitude) → Dated n → Served (centuries_at p.longitude (zero_of n)) p.latitude
unfolding centuries_at
events_served p n l t h = all-served (centuries_number (tt_between _ (noon_instant p.longitude n t h))) l

-- those of the sun's longitude are sky's
pub sun_served : (lon : Float) (n : ℕ) → T (up_to 180 lon) → Dated n → Sky.Served (centuries_at lon (zero_of n))
unfolding centuries_at
sun_served lon n t h = instant_angles _ (noon_instant lon n t h)

-- over Kathmandu
pub kathmandu_served : (n : ℕ) → Dated n → Served (centuries_at kathmandu.longitude (zero_of n)) kathmandu.latitude
unfolding near le neg
kathmandu_served n h = events_served kathmandu n tt tt h
