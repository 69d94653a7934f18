-- `output::Out::join` meets its contract. Assumes nothing.
use mathlib.Core.Path.{refl}
use Rattle.output.proofs.Joins.{one_joined}
use Rattle.output.proofs.Out.join.Goals as goal

pub returns : goal.returns
returns c = one_joined c.room-o.ensures.at_value.0 c.put.ensures refl
