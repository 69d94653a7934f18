-- `asked::words::is_letter` meets its contract. Assumes nothing.
use mathlib.Core.Path.{refl}
use Rattle.asked.specs.Line.{letter}
use Rattle.asked.proofs.words.is_letter.Goals as goal

pub returns : goal.returns
unfolding letter
returns c = refl
