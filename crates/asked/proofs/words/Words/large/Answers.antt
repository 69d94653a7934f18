-- `asked::words::Words::large` meets its contract. Assumes nothing.
use mathlib.Core.Path.{refl}
use Rattle.asked.proofs.Splits.{fitting_from}
use Rattle.asked.proofs.words.Words.large.Goals as goal

pub returns : goal.returns
returns c = rw (c.unwrap_or.ensures, ← c.value.ensures) (fitting_from 4294967295 4294967296 _ c.try_from.result refl c.try_from.ensures)
