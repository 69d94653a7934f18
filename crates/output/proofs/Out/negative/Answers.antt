-- `output::Out::negative` meets its contract. Assumes nothing.
use mathlib.Core.Path.{refl}
use Rattle.text.proofs.Writes.{then}
use Rattle.output.proofs.Gathering.{one_word}
use Rattle.output.proofs.Joins.{negative_short}
use Rattle.output.proofs.Out.negative.Goals as goal

pub returns : goal.returns
returns c =
    one_word (negative_short c.args.n c.ranges.n.fits) c.space-o.ensures.wrote (then c.put-at.ensures c.put_decimal.ensures) refl
