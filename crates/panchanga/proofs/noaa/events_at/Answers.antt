use Rattle.std.proofs.Common.{◌≡◌}
use lib.Ieee.{of_bits}
use Rattle.paper.specs.Floats.{near}
use Rattle.sky.specs.Sun.{sun_longitude}
use Rattle.panchanga.specs.Noaa.{centuries_at, declination, cos_hour_angle, sun_events}
use Rattle.panchanga.proofs.noaa.events_at.Goals as goal
use Rattle.panchanga.proofs.noaa.events_at.Goals.{After-cos_hour_angle-c}

-- the hour angle's cosine is that of the definition
horizon : (c : After-cos_hour_angle-c) → let a = c.args in c.cos_hour_angle-c.result ≡ cos_hour_angle a.place.latitude (declination (centuries_at a.place.longitude a.zero) (sun_longitude (centuries_at a.place.longitude a.zero)))
horizon c = rw (c.cos_hour_angle-c.ensures, c.declination.ensures, c.sun_at-sun.ensures, c.centuries_at-t.ensures)

pub returns-then-c-2 : goal.returns-then-c-2
unfolding sun_events near of_bits
returns-then-c-2 c =
    rw (← horizon c.before.before.before.before.before.before, c.if-c.true, c.if-c-2.true, c.events_around.ensures, c.half_day.ensures, c.solar_noon.ensures, c.equation_of_time-eot.ensures, c.sun_at-sun.ensures, c.centuries_at-t.ensures)

pub returns-else-c-2 : goal.returns-else-c-2
unfolding sun_events near of_bits
returns-else-c-2 c = rw (← horizon c.before.before, c.if-c.true, c.if-c-2.false)

pub returns-else-c : goal.returns-else-c
unfolding sun_events near of_bits
returns-else-c c = rw (← horizon c.before, c.if-c.false)
