-- `asked::words::above` meets its contract. Assumes nothing.
use mathlib.Core.Path.{◌∙◌}
use Rattle.asked.proofs.Splits.{above_from}
use Rattle.asked.proofs.words.above.Goals as goal

pub returns : goal.returns
returns c = c.ok.ensures.value ∙ above_from c.args.v c.try_from.result c.try_from.ensures
