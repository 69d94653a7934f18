-- Minutes of the day are below 1,440. Assumes nothing.
use Rattle.std.proofs.Common.{◌<◌, mod-lt, lit<}
use lib.Ieee.{Float}
use Rattle.panchanga.specs.Clock.{minutes_of, clock_of}

pub minutes_below : (x : Float) → minutes_of x < 1440
unfolding minutes_of
minutes_below x = mod-lt _ (lit< tt)

pub clock_below : (x : Float) → clock_of x < 1440
unfolding clock_of
clock_below x = minutes_below _
