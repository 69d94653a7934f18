use mathlib.Core.Path.{refl}
use Rattle.paper.specs.Floats.{near}
use lib.Ieee.{of_bits}
use Rattle.sky.specs.Moon.{mean_place, mean_elongation, sun_anomaly, moon_anomaly, argument_of_latitude, eccentricity_factor}
use Rattle.sky.proofs.moon.moon_args.Goals as goal

pub returns : goal.returns
unfolding mean_place mean_elongation sun_anomaly moon_anomaly argument_of_latitude eccentricity_factor near of_bits
returns c = refl
