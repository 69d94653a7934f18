-- `doubtful::page::tallied` meets its contract. Assumes nothing.
use mathlib.Core.Path.{refl}
use Rattle.doubtful.specs.Tallies.{doubted}
use Rattle.doubtful.proofs.page.tallied.Goals as goal

pub returns : goal.returns
unfolding doubted
returns c = (refl, rw (c.more_if.ensures, c.more_if-2.ensures, c.more_if-3.ensures))
