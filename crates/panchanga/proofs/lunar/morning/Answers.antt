use lib.Ieee.{of_bits, div}
use Rattle.paper.specs.Floats.{near}
use Rattle.panchanga.specs.Reading.{morning}
use Rattle.panchanga.proofs.lunar.morning.Goals as goal

pub returns : goal.returns
unfolding morning near of_bits div
returns c = rw c.zero_hour.ensures
