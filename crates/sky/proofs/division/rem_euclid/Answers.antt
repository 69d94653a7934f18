use mathlib.Core.Bool.{true, false}
use lib.IntN.{pos}
use lib.Ieee.{of_bits}
use Rattle.paper.specs.Floats.{near, whole}
use Rattle.sky.specs.Angles.{rem_euclid}
use Rattle.sky.proofs.Remainders.{brought_up}
use Rattle.sky.proofs.division.rem_euclid.Goals as goal

pub returns-then-r : goal.returns-then-r
unfolding rem_euclid near of_bits
returns-then-r c = brought_up c.args.x (whole (pos c.args.n)) c.remainder-r.result true c.remainder-r.ensures c.if-r.true

pub returns-else-r : goal.returns-else-r
unfolding rem_euclid near of_bits
returns-else-r c = brought_up c.args.x (whole (pos c.args.n)) c.remainder-r.result false c.remainder-r.ensures c.if-r.false
