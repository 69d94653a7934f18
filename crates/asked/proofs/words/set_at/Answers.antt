-- `asked::words::set_at` meets its contract: past the end nothing is stored. Assumes nothing.
use mathlib.Core.Path.{sym}
use lib.Seq.{set_out}
use Rattle.asked.proofs.words.set_at.Goals as goal

pub returns-else-i-values : goal.returns-else-i-values
returns-else-i-values c = sym (set_out _ _ _ c.if-i-values.false)
