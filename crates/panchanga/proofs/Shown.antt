-- What a reading can show: a tithi from 1 to 30, and minutes of the day or 1,440. And the instant that names the day is one that every call serves: so the
-- reading's tithi is the public answer, and no refusal hides in it. Assumes nothing.
use Rattle.std.specs.Prelude.{None, Ok, Option, Some}
use Rattle.std.proofs.Common.{◌≡◌, ℕ, ◌≤◌, Bool, true, false, cond, ◌&&◌, T, sym, refl, subst, le_refl, le_of_lt}
use lib.Ieee.{Float}
use lib.Ieee.Fits.{and_l, and_r}
use Rattle.paper.specs.Floats.{◌⊕◌, ◌⊖◌, dec}
use Rattle.paper.proofs.Tests.{T_true}
use Rattle.gregorian.specs.declared.Date.{Date}
use Rattle.gregorian.specs.Instants.{instant, zero_of, npt_answer}
use Rattle.trig.specs.Trig.{within_one}
use Rattle.sky.specs.Sun.{mean_longitude, anomaly, sun_longitude}
use Rattle.sky.specs.Tithi.{elongation_of}
use Rattle.sky.specs.Answers.{tithi_answer}
use Rattle.sky.proofs.Twelves.{tithi_range}
use Rattle.panchanga.specs.declared.Place.{Place}
use Rattle.panchanga.specs.declared.lunar.Reading.{Reading}
use Rattle.panchanga.specs.Clock.{clock_of}
use Rattle.panchanga.specs.Noaa.{centuries_at, declination, equation_of_time, cos_hour_angle, solar_noon, half_day, events_around, sun_events, events_on}
use Rattle.panchanga.specs.Reading.{same_date, end_on, morning, reading_at, reading_by, reading_of}
use Rattle.panchanga.proofs.Minutes.{clock_below}
use Rattle.panchanga.proofs.Noon.{Dated, morning_instant}

-- ---- ranges
pub record Shown (r : Reading) : Type 0 where
  pub first : 1 ≤ r.tithi
  pub last : r.tithi ≤ 30
  pub end_upto : r.end ≤ 1440
  pub sunrise_upto : r.sunrise ≤ 1440
  pub sunset_upto : r.sunset ≤ 1440

clock_upto : (x : Float) → clock_of x ≤ 1440
clock_upto x = le_of_lt (clock_below x)

end_shown : (x : Date) (o : Option Float) → end_on x o ≤ 1440
unfolding end_on
end_shown x None = le_refl 1440
end_shown x (Some e) = go (same_date x (npt_answer e))
  where
    go : (b : Bool) → cond b (clock_of e) 1440 ≤ 1440
    go true = clock_upto e
    go false = le_refl 1440

at_shown : (x : Date) (t : Float) (a b : ℕ) → a ≤ 1440 → b ≤ 1440 → Shown (reading_at x t a b)
at_shown x t a b p q =
    let r = tithi_range (elongation_of t) in
    record { first = r.0; last = r.1; end_upto = end_shown x _; sunrise_upto = p; sunset_upto = q }

by_shown : (x : Date) (n : ℕ) (o : Option (Float × Float)) → Shown (reading_by x n o)
by_shown x n None = at_shown x (morning n) 1440 1440 (le_refl 1440) (le_refl 1440)
by_shown x n (Some e) = at_shown x e.0 (clock_of e.0) (clock_of e.1) (clock_upto e.0) (clock_upto e.1)

pub reading_shown : (p : Place) (x : Date) (n : ℕ) → Shown (reading_of p x n)
reading_shown p x n = by_shown x n (events_on p n)

-- ---- the events are instants
abbrev pub Instants : Option (Float × Float) → Type 0
Instants None = Unit
Instants (Some e) = T (instant e.0) × T (instant e.1)

around_instants : (noon half : Float) → Instants (events_around noon half)
unfolding events_around
around_instants noon half = go (instant (noon ⊖ half) && instant (noon ⊕ half)) refl
  where
    go : (b : Bool) → (instant (noon ⊖ half) && instant (noon ⊕ half)) ≡ b → Instants (cond b (Some (noon ⊖ half, noon ⊕ half)) None)
    go true h =
        let t : T (instant (noon ⊖ half) && instant (noon ⊕ half)) = subst T (sym h) tt in
        (and_l (instant (noon ⊖ half)) (instant (noon ⊕ half)) t, and_r (instant (noon ⊖ half)) (instant (noon ⊕ half)) t)
    go false h = tt

or_none : (b : Bool) (o : Option (Float × Float)) → Instants o → Instants (cond b o None)
or_none true o p = p
or_none false o p = tt

sun_instants : (p : Place) (zero : Float) → Instants (sun_events p zero)
unfolding sun_events
sun_instants p zero =
    let t = centuries_at p.longitude zero in
    let c = cos_hour_angle p.latitude (declination t (sun_longitude t)) in
    let noon = zero ⊕ dec 0 0 ⊕ solar_noon p.longitude (equation_of_time t (mean_longitude t) (anomaly t)) in
    or_none (within_one c) (events_around noon (half_day c)) (around_instants noon (half_day c))

pub events_instants : (p : Place) (n : ℕ) → Instants (events_on p n)
unfolding events_on
events_instants p n = sun_instants p (zero_of n)

-- ---- the instant that names the day
abbrev pub naming : ℕ → Option (Float × Float) → Float
naming n (Some e) = e.0
naming n None = morning n

named : (n : ℕ) (o : Option (Float × Float)) → Dated n → Instants o → T (instant (naming n o))
unfolding morning
named n (Some e) h p = p.0
named n None h p = morning_instant n h

pub naming_instant : (p : Place) (n : ℕ) → Dated n → T (instant (naming n (events_on p n)))
naming_instant p n h = named n (events_on p n) h (events_instants p n)

tithi_by : (x : Date) (n : ℕ) (o : Option (Float × Float)) → T (instant (naming n o)) → tithi_answer (naming n o) ≡ Ok (reading_by x n o).tithi
tithi_by x n (Some e) t = rw (T_true (instant e.0) t)
tithi_by x n None t = rw (T_true (instant (morning n)) t)

-- the reading's tithi is what `tithi_at` answers
pub reading_tithi : (p : Place) (x : Date) (n : ℕ) → Dated n → tithi_answer (naming n (events_on p n)) ≡ Ok (reading_of p x n).tithi
reading_tithi p x n h = tithi_by x n (events_on p n) (naming_instant p n h)
