-- Examples of the clock (docs/RULES.md, Sun events, kalas, clock and reading), and the half that a sum with 0.5 would round up. Assumes nothing.
use Rattle.std.proofs.Common.{◌≡◌, refl}
use lib.Ieee.{le, mul, rem, sub, of_int, of_bits}
use Rattle.paper.specs.Floats.{near, dec, bits, floor_of}
use Rattle.gregorian.specs.Instants.{local_day}
use Rattle.panchanga.specs.Clock.{half_up, rounded, minutes_of, fraction, clock_of}

-- the instant 2451544.5 reads 05:45
morning : clock_of (dec 24515445 1) ≡ 345
unfolding clock_of fraction minutes_of rounded half_up floor_of local_day near le mul rem sub of_int
morning = refl

-- the local fraction 0.9998 reads midnight
midnight : minutes_of (dec 9998 4) ≡ 0
unfolding minutes_of rounded half_up floor_of near le mul sub of_int
midnight = refl

-- 0.49999999999999994 is below a half
below_half : rounded (bits 0x3fdf_ffff_ffff_ffff) ≡ 0
unfolding rounded half_up floor_of near of_bits le sub of_int
below_half = refl

half : rounded (dec 5 1) ≡ 1
unfolding rounded half_up floor_of near le sub of_int
half = refl
