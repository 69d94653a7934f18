-- `output::Out::number` meets its contract. Assumes nothing.
use mathlib.Core.Path.{refl}
use Rattle.output.proofs.Gathering.{one_word}
use Rattle.output.proofs.Joins.{digits_short}
use Rattle.output.proofs.Out.number.Goals as goal

pub returns : goal.returns
returns c = one_word (digits_short c.args.n c.ranges.n.fits) c.space-o.ensures.wrote c.put_decimal.ensures refl
