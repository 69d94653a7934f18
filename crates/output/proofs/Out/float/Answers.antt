-- `output::Out::float` meets its contract. Assumes nothing.
use mathlib.Core.Path.{refl}
use Rattle.output.proofs.Gathering.{one_word}
use Rattle.output.proofs.Joins.{float_short}
use Rattle.output.proofs.Out.float.Goals as goal

pub returns : goal.returns
returns c = one_word (float_short _) c.space-o.ensures.wrote c.put_float.ensures refl
