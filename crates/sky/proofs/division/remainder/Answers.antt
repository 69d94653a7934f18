use mathlib.Core.Path.{ap, ◌∙◌}
use lib.IntN.{pos}
use lib.Ieee.{neg}
use Rattle.paper.specs.Floats.{whole}
use Rattle.sky.proofs.Remainders.{turned, above_turned}
use Rattle.sky.proofs.division.remainder.Goals as goal

pub size_remainder-requires : goal.size_remainder-requires
size_remainder-requires c = above_turned c.args.x c.if-x.true

pub returns-then-x : goal.returns-then-x
returns-then-x c = ap neg c.size_remainder.ensures ∙ turned c.args.x (whole (pos c.args.n))
