-- `wall::month::put_legend` meets its contract. Assumes nothing.
use Rattle.wall.specs.Pages.{legend}
use Rattle.wall.proofs.month.put_legend.Goals as goal

pub returns : goal.returns
unfolding legend
returns c = c.put.ensures
