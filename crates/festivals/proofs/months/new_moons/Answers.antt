-- `festivals::months::new_moons` meets its contract. Assumes nothing.
use lib.Ieee.{of_bits}
use Rattle.paper.specs.Floats.{near}
use Rattle.festivals.proofs.Moons.{moons_from}
use Rattle.festivals.proofs.months.new_moons.Goals as goal

pub returns : goal.returns
unfolding near of_bits
returns c =
    let w = c.walk-walked.ensures in
    let e = moons_from _ _ _ _ c.zero_hour.ensures c.zero_hour-2.ensures in
    record { count = rw (← e) w.count; written = rw (← e) w.written }
